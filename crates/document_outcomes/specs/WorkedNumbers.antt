-- VarSets whose outcomes are worked out.
use Rattle.std.specs.Prelude.{◌≡◌, pos, true, [], ◌∷◌, Ok, Err, codes}
use Rattle.unit_signatures.specs.Units.{pure}
use Rattle.property_types.specs.declared.prop_type.PropType.TheVariants.{Float, Integer, Percent}
use Rattle.property_types.specs.declared.prop_type.Sort.TheVariants as sort_of
use Rattle.property_types.specs.declared.value.Value.TheVariants.{Number}
use Rattle.property_types.specs.declared.value.ValueFault.TheVariants.{Range, DivideByZero, NotWhole, OutOfType}
use Rattle.expr_tree.specs.declared.operators.BinaryOp.TheVariants.{Plus, Times, Over}
use Rattle.expr_tree.specs.Tree.{flag, binary, conditional}
use Rattle.document_model.specs.declared.content.Content.TheVariants.{Own, Bound}
use Rattle.document_model.specs.Document.{Document}
use Rattle.document_model.specs.Examples.{document_of}
use Rattle.document_model.specs.LinkedBox.{named}
use Rattle.document_outcomes.specs.Faults.{IsValid}
use Rattle.document_outcomes.specs.Full.{Meanings, full}
use Rattle.document_outcomes.specs.Sorts.{sort}
use Rattle.document_outcomes.specs.WorkedParts.{whole, numeral, its, of_object, property, var_set}

-- V has `a`, which is 2, and `b`, which is `a + 1`; W has `c`, which is `V.b * V.b`
abbrev pub chain : Document
chain =
    document_of (
    var_set (codes "V")
    (property Float (codes "a") (Own (whole 2)) ∷ property Float (codes "b") (Bound (binary Plus (its (codes "a")) (numeral 1))) ∷ [])
    ∷ var_set (codes "W")
    (property Float (codes "c") (Bound (binary Times (of_object (codes "V") (codes "b")) (of_object (codes "V") (codes "b")))) ∷ [])
    ∷ [])

-- `b` is 3 and `c` is 9
pub record ChainWorks (m : Meanings) : Type 0 where
  pub sort_of_c : sort chain (named (codes "W") (codes "c")) ≡ Ok (sort_of.Number pure)
  pub a : full m chain (named (codes "V") (codes "a")) ≡ Ok (whole 2)
  pub b : full m chain (named (codes "V") (codes "b")) ≡ Ok (whole 3)
  pub c : full m chain (named (codes "W") (codes "c")) ≡ Ok (whole 9)
  pub valid : IsValid chain

-- V has the greatest amount, `a`; `b` is `a * 10`, `c` is `b + 1`, and `d` is `true ? 1 : c`. The Float
-- `e` is `1 / 0`, the Integer `f` is `1 / 2`, and the Percent `g` is `101`
abbrev pub faulted : Document
faulted =
    document_of (
    var_set (codes "V") (
    property Float (codes "a") (Own (Number (record { amount = pos 10000000000000000000000000000; unit = pure })))
    ∷ property Float (codes "b") (Bound (binary Times (its (codes "a")) (numeral 10)))
    ∷ property Float (codes "c") (Bound (binary Plus (its (codes "b")) (numeral 1)))
    ∷ property Float (codes "d") (Bound (conditional (flag true) (numeral 1) (its (codes "c"))))
    ∷ property Float (codes "e") (Bound (binary Over (numeral 1) (numeral 0)))
    ∷ property Integer (codes "f") (Bound (binary Over (numeral 1) (numeral 2)))
    ∷ property Percent (codes "g") (Bound (numeral 101))
    ∷ [])
    ∷ [])

-- Range spreads to what reads it, and an arm that is not chosen is not read; a path that names no slot
-- gives Range. Faulted outcomes are no faults of the document
pub record FaultedWorks (m : Meanings) : Type 0 where
  pub b : full m faulted (named (codes "V") (codes "b")) ≡ Err Range
  pub c : full m faulted (named (codes "V") (codes "c")) ≡ Err Range
  pub d : full m faulted (named (codes "V") (codes "d")) ≡ Ok (whole 1)
  pub e : full m faulted (named (codes "V") (codes "e")) ≡ Err DivideByZero
  pub f : full m faulted (named (codes "V") (codes "f")) ≡ Err NotWhole
  pub g : full m faulted (named (codes "V") (codes "g")) ≡ Err OutOfType
  pub no_slot :
      full m (document_of (var_set (codes "V") (property Float (codes "a") (Bound (its (codes "nothing"))) ∷ []) ∷ [])) (named (codes "V") (codes "a")) ≡ Err Range
  pub valid : IsValid faulted
