-- The worked documents hold by computation.
use Rattle.std.proofs.Common.{refl}
use Rattle.std.specs.Fmt.{digits}
use Rattle.std.specs.Str.{is_utf8, chars}
use lib.Utf8.{encode}
use Rattle.unicode_ident.proofs.Computing.{unicode_ident}
use Rattle.fc_base.specs.Graph.{full_at, reaches_in}
use Rattle.fc_base.specs.Places.{address_of, address_text}
use Rattle.unit_signatures.specs.Table.{unit_named}
use Rattle.quantities.specs.Arithmetic.{nearest}
use Rattle.quantities.specs.Decimals.{is_decimal, decimal_value, size_of}
use Rattle.quantities.specs.Texts.{decimal_text, digits_below, without_final_zeros, whole_text}
use Rattle.object_paths.specs.PathTexts.{path_text}
use Rattle.expr_tokens.specs.Lexemes.{lexed_from, lexeme_at, numeral_at, word_at}
use Rattle.expr_tokens.specs.Limits.{excess_from}
use Rattle.expr_tokens.specs.Longest.{longest, longest_within}
use Rattle.expr_grammar.specs.Printed.{printed}
use Rattle.expr_tokens.specs.Signs.{sign_at}
use Rattle.document_model.specs.Resolution.{resolve}
use Rattle.document_model.specs.Dependencies.{deps}
use Rattle.document_outcomes.specs.Called.{input_lists, called}
use Rattle.document_outcomes.specs.Cycles.{is_cyclic, leads_back}
use Rattle.document_outcomes.specs.Faults.{first_fault, fault_within_limits}
use Rattle.document_outcomes.specs.Full.{Meanings, local, full}
use Rattle.document_outcomes.specs.Sorts.{local_sort, sort}
use Rattle.document_outcomes.specs.WorkedFaults.{FirstFaultsWork}
use Rattle.document_outcomes.specs.WorkedLinks.{SheetWorks, LinksWork, LinkFaultsWork, FeaturesWork}
use Rattle.document_outcomes.specs.WorkedNumbers.{ChainWorks, FaultedWorks}

pub chain_works : (m : Meanings) → ChainWorks m
unfolding full sort local local_sort full_at deps resolve first_fault fault_within_limits is_cyclic leads_back reaches_in input_lists called path_text unit_named address_of address_text digits excess_from lexed_from lexeme_at numeral_at word_at longest longest_within sign_at printed is_utf8 chars encode decimal_text digits_below without_final_zeros whole_text is_decimal decimal_value size_of unicode_ident nearest
chain_works m = record {
  sort_of_c = refl;
  a = refl;
  b = refl;
  c = refl;
  valid = refl;
}

pub faulted_works : (m : Meanings) → FaultedWorks m
unfolding full sort local local_sort full_at deps resolve first_fault fault_within_limits is_cyclic leads_back reaches_in input_lists called path_text unit_named address_of address_text digits excess_from lexed_from lexeme_at numeral_at word_at longest longest_within sign_at printed is_utf8 chars encode decimal_text digits_below without_final_zeros whole_text is_decimal decimal_value size_of unicode_ident nearest
faulted_works m = record {
  b = refl;
  c = refl;
  d = refl;
  e = refl;
  f = refl;
  g = refl;
  no_slot = refl;
  valid = refl;
}

pub first_faults_work : FirstFaultsWork
unfolding full sort local local_sort full_at deps resolve first_fault fault_within_limits is_cyclic leads_back reaches_in input_lists called path_text unit_named address_of address_text digits excess_from lexed_from lexeme_at numeral_at word_at longest longest_within sign_at printed is_utf8 chars encode decimal_text digits_below without_final_zeros whole_text is_decimal decimal_value size_of unicode_ident nearest
first_faults_work = record {
  cycle = refl;
  outside_cycle = refl;
  unknown = refl;
  unit = refl;
  kind = refl;
  exponent = refl;
  pure = refl;
  range = refl;
  first_range = refl;
  sort_first = refl;
  brackets_32 = refl;
  brackets_33 = refl;
  numbers = refl;
  label = refl;
}

pub sheet_works : (m : Meanings) → SheetWorks m
unfolding full sort local local_sort full_at deps resolve first_fault fault_within_limits is_cyclic leads_back reaches_in input_lists called path_text unit_named address_of address_text digits excess_from lexed_from lexeme_at numeral_at word_at longest longest_within sign_at printed is_utf8 chars encode decimal_text digits_below without_final_zeros whole_text is_decimal decimal_value size_of unicode_ident nearest
sheet_works m = record {
  total = refl;
  by_alias = refl;
  valid = refl;
  empty_area = refl;
  empty_total = refl;
  text = refl;
}

pub links_work : (m : Meanings) → LinksWork m
unfolding full sort local local_sort full_at deps resolve first_fault fault_within_limits is_cyclic leads_back reaches_in input_lists called path_text unit_named address_of address_text digits excess_from lexed_from lexeme_at numeral_at word_at longest longest_within sign_at printed is_utf8 chars encode decimal_text digits_below without_final_zeros whole_text is_decimal decimal_value size_of unicode_ident nearest
links_work m = record {
  inherited = refl;
  overridden = refl;
  through = refl;
  valid = refl;
}

pub link_faults_work : LinkFaultsWork
unfolding full sort local local_sort full_at deps resolve first_fault fault_within_limits is_cyclic leads_back reaches_in input_lists called path_text unit_named address_of address_text digits excess_from lexed_from lexeme_at numeral_at word_at longest longest_within sign_at printed is_utf8 chars encode decimal_text digits_below without_final_zeros whole_text is_decimal decimal_value size_of unicode_ident nearest
link_faults_work = record {
  cycle = refl;
  endless = refl;
  no_target = refl;
  no_slot = refl;
  override_through = refl;
  other_unit = refl;
}

pub features_work : FeaturesWork
unfolding full sort local local_sort full_at deps resolve first_fault fault_within_limits is_cyclic leads_back reaches_in input_lists called path_text unit_named address_of address_text digits excess_from lexed_from lexeme_at numeral_at word_at longest longest_within sign_at printed is_utf8 chars encode decimal_text digits_below without_final_zeros whole_text is_decimal decimal_value size_of unicode_ident nearest
features_work = record {
  first = refl;
  second = refl;
  bound = refl;
  own_place = refl;
  place_of_target = refl;
  asked = refl;
  not_again = refl;
  link_again = refl;
}
