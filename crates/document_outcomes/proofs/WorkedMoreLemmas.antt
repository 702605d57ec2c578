-- More worked documents hold by computation.
use Rattle.std.proofs.Common.{refl}
use Rattle.std.specs.Fmt.{digits}
use Rattle.std.specs.Str.{is_utf8, chars}
use lib.Utf8.{encode}
use Rattle.unicode_ident.proofs.Computing.{unicode_ident}
use Rattle.fc_base.specs.Graph.{full_at, reaches_in}
use Rattle.fc_base.specs.Places.{address_of, address_text}
use Rattle.unit_signatures.specs.Table.{unit_named}
use Rattle.quantities.specs.Arithmetic.{nearest}
use Rattle.quantities.specs.Decimals.{is_decimal, decimal_value, size_of}
use Rattle.quantities.specs.Texts.{decimal_text, digits_below, without_final_zeros, whole_text}
use Rattle.object_paths.specs.PathTexts.{path_text}
use Rattle.expr_tokens.specs.Lexemes.{lexed_from, lexeme_at, numeral_at, word_at}
use Rattle.expr_tokens.specs.Limits.{excess_from}
use Rattle.expr_tokens.specs.Longest.{longest, longest_within}
use Rattle.expr_grammar.specs.Printed.{printed}
use Rattle.expr_tokens.specs.Signs.{sign_at}
use Rattle.document_model.specs.Resolution.{resolve}
use Rattle.document_model.specs.Dependencies.{deps}
use Rattle.document_outcomes.specs.Called.{input_lists, called}
use Rattle.document_outcomes.specs.Cycles.{is_cyclic, leads_back}
use Rattle.document_outcomes.specs.Faults.{first_fault, fault_within_limits}
use Rattle.document_outcomes.specs.Full.{Meanings, local, full}
use Rattle.document_outcomes.specs.Sorts.{local_sort, sort}
use Rattle.document_outcomes.specs.WorkedFaultedInputs.{FaultedInputsWork}
use Rattle.document_outcomes.specs.WorkedMembers.{MembersWork, EntriesWork, HiddenAliasesWork, PlacementsWork}
use Rattle.document_outcomes.specs.WorkedOrder.{KindsOfFaultsWork, ReferenceFaultsWork, SortFaultsWork}

pub kinds_of_faults_work : KindsOfFaultsWork
unfolding full sort local local_sort full_at deps resolve first_fault fault_within_limits is_cyclic leads_back reaches_in input_lists called path_text unit_named address_of address_text digits excess_from lexed_from lexeme_at numeral_at word_at longest longest_within sign_at printed is_utf8 chars encode decimal_text digits_below without_final_zeros whole_text is_decimal decimal_value size_of unicode_ident nearest
kinds_of_faults_work = record {
  size_before_label = refl;
  label_before_link = refl;
  link_before_reference = refl;
  links_and_compounds = refl;
  size_of_override = refl;
  cycle_before_sort = refl;
  first_label = refl;
}

pub reference_faults_work : ReferenceFaultsWork
unfolding full sort local local_sort full_at deps resolve first_fault fault_within_limits is_cyclic leads_back reaches_in input_lists called path_text unit_named address_of address_text digits excess_from lexed_from lexeme_at numeral_at word_at longest longest_within sign_at printed is_utf8 chars encode decimal_text digits_below without_final_zeros whole_text is_decimal decimal_value size_of unicode_ident nearest
reference_faults_work = record {
  override_before_slot = refl;
  first_override = refl;
  output = refl;
  own_slot = refl;
  target_before_override = refl;
  slot_of_override = refl;
  object_by_object = refl;
  area_outside_sheet = refl;
  no_member = refl;
}

pub sort_faults_work : SortFaultsWork
unfolding full sort local local_sort full_at deps resolve first_fault fault_within_limits is_cyclic leads_back reaches_in input_lists called path_text unit_named address_of address_text digits excess_from lexed_from lexeme_at numeral_at word_at longest longest_within sign_at printed is_utf8 chars encode decimal_text digits_below without_final_zeros whole_text is_decimal decimal_value size_of unicode_ident nearest
sort_faults_work = record {
  flag_given = refl;
  text_given = refl;
  number_for_text = refl;
  length_for_float = refl;
  text_in_override = refl;
  inherited_sort = refl;
}

pub members_work : MembersWork
unfolding full sort local local_sort full_at deps resolve first_fault fault_within_limits is_cyclic leads_back reaches_in input_lists called path_text unit_named address_of address_text digits excess_from lexed_from lexeme_at numeral_at word_at longest longest_within sign_at printed is_utf8 chars encode decimal_text digits_below without_final_zeros whole_text is_decimal decimal_value size_of unicode_ident nearest
members_work = record {
  first = refl;
  other = refl;
  link = refl;
  second = refl;
  valid = refl;
  linked = refl;
  unplaced = refl;
  no_bounds = refl;
}

pub entries_work : EntriesWork
unfolding full sort local local_sort full_at deps resolve first_fault fault_within_limits is_cyclic leads_back reaches_in input_lists called path_text unit_named address_of address_text digits excess_from lexed_from lexeme_at numeral_at word_at longest longest_within sign_at printed is_utf8 chars encode decimal_text digits_below without_final_zeros whole_text is_decimal decimal_value size_of unicode_ident nearest
entries_work = record {
  same = refl;
  other_object = refl;
  other_plan = refl;
  other_values = refl;
  plan = refl;
}

pub hidden_aliases_work : HiddenAliasesWork
unfolding full sort local local_sort full_at deps resolve first_fault fault_within_limits is_cyclic leads_back reaches_in input_lists called path_text unit_named address_of address_text digits excess_from lexed_from lexeme_at numeral_at word_at longest longest_within sign_at printed is_utf8 chars encode decimal_text digits_below without_final_zeros whole_text is_decimal decimal_value size_of unicode_ident nearest
hidden_aliases_work = record {
  property = λ m. refl;
  placement = refl;
  alias = λ m. refl;
}

pub placements_work : PlacementsWork
unfolding full sort local local_sort full_at deps resolve first_fault fault_within_limits is_cyclic leads_back reaches_in input_lists called path_text unit_named address_of address_text digits excess_from lexed_from lexeme_at numeral_at word_at longest longest_within sign_at printed is_utf8 chars encode decimal_text digits_below without_final_zeros whole_text is_decimal decimal_value size_of unicode_ident nearest
placements_work = record {
  x = refl;
  y = refl;
  turn = refl;
  no_turn = refl;
  own_turn = refl;
}

pub faulted_inputs_work : FaultedInputsWork
unfolding full sort local local_sort full_at deps resolve first_fault fault_within_limits is_cyclic leads_back reaches_in input_lists called path_text unit_named address_of address_text digits excess_from lexed_from lexeme_at numeral_at word_at longest longest_within sign_at printed is_utf8 chars encode decimal_text digits_below without_final_zeros whole_text is_decimal decimal_value size_of unicode_ident nearest
faulted_inputs_work = record {
  first = refl;
  not_called = refl;
  placed_by_target = refl;
  link_not_called = refl;
}
