-- Documents whose first fault is worked out.
use Rattle.std.specs.Prelude.{◌≡◌, ℕ, zero, suc, pos, negsuc, false, true, [], ◌∷◌, Some, None, codes}
use Rattle.property_types.specs.declared.prop_type.PropType.TheVariants.{Float, Length}
use Rattle.property_types.specs.declared.value.Value.TheVariants.{Number}
use Rattle.property_types.specs.Types.{unit_of}
use Rattle.expr_tree.specs.declared.operators.BinaryOp.TheVariants.{Minus, Times}
use Rattle.expr_tree.specs.Tree.{Tree, literal, flag, binary}
use Rattle.document_model.specs.declared.content.Content.{Content}
use Rattle.document_model.specs.declared.content.Content.TheVariants.{Own, Bound}
use Rattle.document_model.specs.Document.{Document}
use Rattle.document_model.specs.Examples.{document_of}
use Rattle.document_model.specs.LinkedBox.{named}
use Rattle.document_outcomes.specs.Cycles.{is_cyclic}
use Rattle.document_outcomes.specs.Faults.{first_fault}
use Rattle.document_outcomes.specs.RefusalNumbers as number
use Rattle.document_outcomes.specs.WorkedParts.{numeral, its, of_object, property, var_set}

-- `a` is `b`, `b` is `W.c`, and W's `c` is `V.b`
abbrev pub in_cycle : Document
in_cycle =
    document_of (
    var_set (codes "V") (property Float (codes "a") (Bound (its (codes "b"))) ∷ property Float (codes "b") (Bound (of_object (codes "W") (codes "c"))) ∷ [])
    ∷ var_set (codes "W") (property Float (codes "c") (Bound (of_object (codes "V") (codes "b"))) ∷ [])
    ∷ [])

-- `a` is `a`, and W's `c` is `nothing`
abbrev pub unresolved : Document
unresolved =
    document_of (
    var_set (codes "V") (property Float (codes "a") (Bound (its (codes "a"))) ∷ [])
    ∷ var_set (codes "W") (property Float (codes "c") (Bound (its (codes "nothing"))) ∷ [])
    ∷ [])

-- one Length `l` of V, with that in it
abbrev pub with_length : Content → Document
with_length content = document_of (var_set (codes "V") (property Length (codes "l") content ∷ []) ∷ [])

-- a second of time, and the fourth power of a millimetre
abbrev pub second : Content
second = Bound (literal (pos 1000000000) (Some (record { unit = codes "s"; exponent = pos 1 })))

abbrev pub eighth_power : Content
eighth_power =
    Bound (binary Times (literal (pos 1000000000) (Some (record { unit = codes "mm"; exponent = pos 4 })))
    (literal (pos 1000000000) (Some (record { unit = codes "mm"; exponent = pos 4 }))))

-- a length of minus one billionth of a millimetre
abbrev pub below_zero : Content
below_zero = Own (Number (record { amount = negsuc 0; unit = unit_of (pos 1) (pos 0) (pos 0) (pos 0) }))

-- a Length below zero, and then a Float that is a flag
abbrev pub two_faults : Document
two_faults =
    document_of (var_set (codes "V") (property Length (codes "l") below_zero ∷ property Float (codes "m") (Bound (flag true)) ∷ []) ∷ [])

-- a second VarSet with the label of the first, and with a property that is `nothing`
abbrev pub labelled_alike : Document
labelled_alike =
    document_of (
    var_set (codes "V") []
    ∷ record (var_set (codes "W") (property Float (codes "c") (Bound (its (codes "nothing"))) ∷ [])) { label = codes "V" }
    ∷ [])

-- `1 - (1 - (1 - .. ))`, with one bracket less than there are differences
abbrev pub nested : ℕ → Tree
nested zero = numeral 1
nested (suc n) = binary Minus (numeral 1) (nested n)

abbrev pub with_float : Content → Document
with_float content = document_of (var_set (codes "V") (property Float (codes "a") content ∷ []) ∷ [])

-- the first fault of each: a cycle is named by the first slot in it, an unknown reference comes before
-- the cycle of an earlier slot, a sort that is missing before an earlier value outside its type, and a
-- label that is taken before all of these. A pure number is given to a Length without a fault. The numbers of
-- refusals follow one another
pub record FirstFaultsWork : Type 0 where
  pub cycle : first_fault in_cycle ≡ Some (record { number = 14; subject = codes "V.b" })
  pub outside_cycle : is_cyclic in_cycle (named (codes "V") (codes "a")) ≡ false
  pub unknown : first_fault unresolved ≡ Some (record { number = 12; subject = codes "W.c" })
  pub unit : first_fault (with_length second) ≡ Some (record { number = 15; subject = codes "V.l" })
  pub kind : first_fault (with_length (Bound (flag true))) ≡ Some (record { number = 16; subject = codes "V.l" })
  pub exponent : first_fault (with_length eighth_power) ≡ Some (record { number = 17; subject = codes "V.l" })
  pub pure : first_fault (with_length (Bound (numeral 3))) ≡ None
  pub range : first_fault (with_length below_zero) ≡ Some (record { number = 10; subject = codes "V.l" })
  pub first_range :
      first_fault (document_of (var_set (codes "V") (property Length (codes "l") below_zero ∷ property Length (codes "n") below_zero ∷ []) ∷ []))
      ≡ Some (record { number = 10; subject = codes "V.l" })
  pub sort_first : first_fault two_faults ≡ Some (record { number = 16; subject = codes "V.m" })
  pub brackets_32 : first_fault (with_float (Bound (nested 33))) ≡ None
  pub brackets_33 : first_fault (with_float (Bound (nested 34))) ≡ Some (record { number = 29; subject = [] })
  pub numbers :
      number.syntax ∷ number.no_object ∷ number.no_property ∷ number.name_taken ∷ number.bad_name ∷ number.label_taken
      ∷ number.bad_label ∷ number.read_only ∷ number.wrong_type ∷ number.out_of_range ∷ number.expr_syntax ∷ number.unknown_reference
      ∷ number.not_dynamic ∷ number.cycle ∷ number.unit_mismatch ∷ number.kind_mismatch ∷ number.exponent_range ∷ number.not_overridden
      ∷ number.sheet_edge ∷ number.cell_taken ∷ number.bad_alias ∷ number.alias_taken ∷ number.link_kind ∷ number.transaction_open
      ∷ number.no_transaction ∷ number.nothing_to_undo ∷ number.nothing_to_redo ∷ number.not_recomputed ∷ number.too_many ∷ number.no_feature ∷ number.not_built ∷ []
      ≡ 1 ∷ 2 ∷ 3 ∷ 4 ∷ 5 ∷ 6 ∷ 7 ∷ 8 ∷ 9 ∷ 10 ∷ 11 ∷ 12 ∷ 13 ∷ 14 ∷ 15 ∷ 16 ∷ 17 ∷ 18 ∷ 19 ∷ 20 ∷ 21 ∷ 22 ∷ 23 ∷ 24 ∷ 25 ∷ 26 ∷ 27 ∷ 28 ∷ 29 ∷ 30 ∷ 99 ∷ []
  pub label : first_fault labelled_alike ≡ Some (record { number = 6; subject = codes "W" })
