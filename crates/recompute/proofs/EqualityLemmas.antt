-- The test of outcomes is equality.
use Rattle.std.proofs.Common.{◌≡◌, Ok, Err, refl, ap}
use Rattle.std.specs.Bool.{Decides}
use Rattle.property_types.proofs.Equality.{value_equal}
use Rattle.property_types.specs.declared.value.ValueFault.{ValueFault}
use Rattle.property_types.specs.declared.value.ValueFault.TheVariants.{Range, DivideByZero, NotWhole, OutOfType, EmptyAggregate}
use Rattle.property_types.specs.Values.{Outcome}
use Rattle.recompute.specs.Evaluated.{same_fault, same_outcome}

fault_equal : (a b : ValueFault) → Decides (same_fault a b) (a ≡ b)
fault_equal Range Range = (λ _. refl, λ _. refl)
fault_equal Range DivideByZero = (λ h. absurd (cc), λ h. absurd (cc))
fault_equal Range NotWhole = (λ h. absurd (cc), λ h. absurd (cc))
fault_equal Range OutOfType = (λ h. absurd (cc), λ h. absurd (cc))
fault_equal Range EmptyAggregate = (λ h. absurd (cc), λ h. absurd (cc))
fault_equal DivideByZero Range = (λ h. absurd (cc), λ h. absurd (cc))
fault_equal DivideByZero DivideByZero = (λ _. refl, λ _. refl)
fault_equal DivideByZero NotWhole = (λ h. absurd (cc), λ h. absurd (cc))
fault_equal DivideByZero OutOfType = (λ h. absurd (cc), λ h. absurd (cc))
fault_equal DivideByZero EmptyAggregate = (λ h. absurd (cc), λ h. absurd (cc))
fault_equal NotWhole Range = (λ h. absurd (cc), λ h. absurd (cc))
fault_equal NotWhole DivideByZero = (λ h. absurd (cc), λ h. absurd (cc))
fault_equal NotWhole NotWhole = (λ _. refl, λ _. refl)
fault_equal NotWhole OutOfType = (λ h. absurd (cc), λ h. absurd (cc))
fault_equal NotWhole EmptyAggregate = (λ h. absurd (cc), λ h. absurd (cc))
fault_equal OutOfType Range = (λ h. absurd (cc), λ h. absurd (cc))
fault_equal OutOfType DivideByZero = (λ h. absurd (cc), λ h. absurd (cc))
fault_equal OutOfType NotWhole = (λ h. absurd (cc), λ h. absurd (cc))
fault_equal OutOfType OutOfType = (λ _. refl, λ _. refl)
fault_equal OutOfType EmptyAggregate = (λ h. absurd (cc), λ h. absurd (cc))
fault_equal EmptyAggregate Range = (λ h. absurd (cc), λ h. absurd (cc))
fault_equal EmptyAggregate DivideByZero = (λ h. absurd (cc), λ h. absurd (cc))
fault_equal EmptyAggregate NotWhole = (λ h. absurd (cc), λ h. absurd (cc))
fault_equal EmptyAggregate OutOfType = (λ h. absurd (cc), λ h. absurd (cc))
fault_equal EmptyAggregate EmptyAggregate = (λ _. refl, λ _. refl)

pub outcome_equal : (a b : Outcome) → Decides (same_outcome a b) (a ≡ b)
outcome_equal (Ok a) (Ok b) = let d = value_equal a b in (λ h. ap Ok (d.0 h), λ h. d.1 (cc))
outcome_equal (Err a) (Err b) = let d = fault_equal a b in (λ h. ap Err (d.0 h), λ h. d.1 (cc))
outcome_equal (Ok a) (Err b) = (λ h. absurd (cc), λ h. absurd (cc))
outcome_equal (Err a) (Ok b) = (λ h. absurd (cc), λ h. absurd (cc))
