-- The test of the limits says exactly which are passed.
use Rattle.std.proofs.Common.{◌≡◌, ◌<◌, ◌↔◌, ◌⊎◌, inl, inr, ℕ, Bool, true, false, ◌||◌, [], length, Some, refl, sym, subst, IsTrue, cond, arith, ap, ◌∙◌}
use Rattle.std.specs.Prelude.{Option, nat_lt}
use Rattle.std.specs.Option.{option_or}
use Rattle.std.proofs.lemmas.Bool.{ltb-true, lt-ltb}
use Rattle.document_model.specs.Counts.{slots_and_empty_cells, nodes_of_document, dependencies_of_document}
use Rattle.document_model.specs.Document.{Document}
use Rattle.document_outcomes.specs.Faults.{Fault, first_fault, fault_within_limits, limit_faults}
use Rattle.document_outcomes.specs.Limits.{has_too_many, has_too_large}
use Rattle.document_outcomes.specs.LimitsPassed.{IsPastLimit, LimitsAreExact}
use Rattle.document_outcomes.specs.RefusalNumbers.{too_many}

past_cases : (a b c d : Bool) → (a || b || c || d) ≡ true → (a ≡ true) ⊎ ((b ≡ true) ⊎ ((c ≡ true) ⊎ (d ≡ true)))
past_cases true b c d h = inl refl
past_cases false true c d h = inr (inl refl)
past_cases false false true d h = inr (inr (inl refl))
past_cases false false false true h = inr (inr (inr refl))
past_cases false false false false h = absurd (cc)

cases_past : (a b c d : Bool) → (a ≡ true) ⊎ ((b ≡ true) ⊎ ((c ≡ true) ⊎ (d ≡ true))) → (a || b || c || d) ≡ true
cases_past true b c d h = refl
cases_past false true c d h = refl
cases_past false false true d h = refl
cases_past false false false true h = refl
cases_past false false false false (inl h) = absurd (cc)
cases_past false false false false (inr (inl h)) = absurd (cc)
cases_past false false false false (inr (inr (inl h))) = absurd (cc)
cases_past false false false false (inr (inr (inr h))) = absurd (cc)

map_four :
    {A B C D P Q R S : Type 0} → (A → P) → (B → Q) → (C → R) → (D → S) → A ⊎ (B ⊎ (C ⊎ D)) → P ⊎ (Q ⊎ (R ⊎ S))
map_four f g h k (inl a) = inl (f a)
map_four f g h k (inr (inl b)) = inr (inl (g b))
map_four f g h k (inr (inr (inl c))) = inr (inr (inl (h c)))
map_four f g h k (inr (inr (inr d))) = inr (inr (inr (k d)))

past : (d : Document) → has_too_many d ≡ true → IsPastLimit d
past d h =
    map_four (ltb-true 4096 (length d.objects)) (ltb-true 65536 (slots_and_empty_cells d)) (ltb-true 262144 (nodes_of_document d))
    (ltb-true 4194304 (dependencies_of_document d))
    (past_cases (nat_lt 4096 (length d.objects)) (nat_lt 65536 (slots_and_empty_cells d)) (nat_lt 262144 (nodes_of_document d))
    (nat_lt 4194304 (dependencies_of_document d)) h)

too_many_of : (d : Document) → IsPastLimit d → has_too_many d ≡ true
too_many_of d h =
    cases_past (nat_lt 4096 (length d.objects)) (nat_lt 65536 (slots_and_empty_cells d)) (nat_lt 262144 (nodes_of_document d))
    (nat_lt 4194304 (dependencies_of_document d))
    (map_four (lt-ltb 4096 (length d.objects)) (lt-ltb 65536 (slots_and_empty_cells d)) (lt-ltb 262144 (nodes_of_document d))
    (lt-ltb 4194304 (dependencies_of_document d)) h)

first_past : (d : Document) (many : Bool) → has_too_many d ≡ many → many ≡ true → first_fault d ≡ Some (record { number = too_many; subject = [] })
unfolding first_fault
first_past d true e h = rw e refl
first_past d false e h = absurd (cc)

first_large : (d : Document) (many : Bool) → has_too_many d ≡ many → has_too_large d ≡ true → first_fault d ≡ Some (record { number = too_many; subject = [] })
unfolding first_fault
first_large d true e large = rw e refl
first_large d false e large = rw (e, large) refl

within_limits : (d : Document) (many : Bool) → has_too_many d ≡ many → many ≡ false → has_too_large d ≡ false → first_fault d ≡ fault_within_limits d
unfolding first_fault
within_limits d true e h large = absurd (cc)
within_limits d false e h large = rw (e, large) refl

not_past : (d : Document) (many : Bool) → has_too_many d ≡ many → (IsPastLimit d → ⊥) → many ≡ false
not_past d true e none = absurd (none (past d e))
not_past d false e none = refl

pub limits_are_exact : (d : Document) → LimitsAreExact d
limits_are_exact d = record {
  counted = (past d, too_many_of d);
  first = λ h. first_past d (has_too_many d) refl (too_many_of d h);
  large = λ h. first_large d (has_too_many d) refl h;
  within = λ none large. within_limits d (has_too_many d) refl (not_past d (has_too_many d) refl none) large;
}
