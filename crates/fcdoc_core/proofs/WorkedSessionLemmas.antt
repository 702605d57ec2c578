-- The worked session holds by computation.
use Rattle.std.proofs.Common.{refl}
use Rattle.std.specs.Fmt.{digits}
use Rattle.std.specs.Str.{is_utf8, chars}
use lib.Utf8.{encode}
use Rattle.unicode_ident.proofs.Computing.{unicode_ident}
use Rattle.fc_base.specs.AddressParts.{read_place}
use Rattle.fc_base.specs.Graph.{full_at, reaches_in}
use Rattle.fc_base.specs.Places.{address_of, address_text}
use Rattle.unit_signatures.specs.Table.{unit_named}
use Rattle.quantities.specs.Arithmetic.{nearest, repeated}
use Rattle.quantities.specs.Decimals.{is_decimal, decimal_value, size_of}
use Rattle.quantities.specs.Texts.{decimal_text, digits_below, without_final_zeros, whole_text}
use Rattle.object_paths.specs.PathParts.{path_of}
use Rattle.object_paths.specs.PathTexts.{path_text}
use Rattle.expr_tokens.specs.FirstReference.{first_reference_among}
use Rattle.expr_tokens.specs.Lexemes.{lexed_from, lexeme_at, numeral_at, word_at}
use Rattle.expr_tokens.specs.Limits.{excess_from}
use Rattle.expr_tokens.specs.Longest.{longest, longest_within}
use Rattle.expr_tokens.specs.Misplaced.{misplaced_from}
use Rattle.expr_tokens.specs.Signs.{sign_at}
use Rattle.expr_grammar.specs.Descent.{exponent_in_front, readers, parsed, parsed_operands, parsed_exponents, parsed_arguments}
use Rattle.expr_grammar.specs.Parse.{expression_in, closed_expression_in, first_reference}
use Rattle.expr_grammar.specs.Printed.{printed}
use Rattle.document_model.specs.Resolution.{resolve}
use Rattle.document_model.specs.Dependencies.{deps}
use Rattle.document_outcomes.specs.Called.{input_lists, called}
use Rattle.document_outcomes.specs.Cycles.{is_cyclic, leads_back}
use Rattle.document_outcomes.specs.Faults.{first_fault, fault_within_limits}
use Rattle.document_outcomes.specs.Full.{local, full}
use Rattle.document_outcomes.specs.Sorts.{local_sort, sort}
use Rattle.doc_rules.specs.Edits.{edited}
use Rattle.fcdoc_core.specs.WorkedSession.{SessionWorks}

pub session_works : SessionWorks
unfolding full sort repeated local local_sort full_at deps resolve first_fault fault_within_limits is_cyclic leads_back reaches_in input_lists called path_text path_of unit_named address_of address_text read_place digits excess_from lexed_from lexeme_at numeral_at word_at longest longest_within sign_at misplaced_from first_reference_among expression_in closed_expression_in first_reference exponent_in_front readers parsed parsed_operands parsed_exponents parsed_arguments printed is_utf8 chars encode decimal_text digits_below without_final_zeros whole_text is_decimal decimal_value size_of unicode_ident nearest edited
session_works = record {
  answers = refl;
  calls = refl;
  behind_recompute = refl;
  behind_edit = refl;
  behind_third = refl;
  behind_all = refl;
}
