-- The attributes in front of a text, one after another.
use Rattle.std.proofs.Common.{◌≡◌, ◌≤◌, ℕ, zero, suc, List, [], ◌∷◌, ◌++◌, length, Option, None, Some, refl, sym, ap, ◌∙◌, arith, append_assoc}
use Rattle.fcxml_profile.specs.Items.{Attribute, attribute_behind_blanks, attributes_within, attributes_at, and_more}
use Rattle.fcxml_profile.proofs.Shorter.{behind_blanks-shorter}

-- attributes in front of others, and what follows those
abbrev pub behind_attributes : List Attribute → List Attribute × List ℕ → List Attribute × List ℕ
behind_attributes front more = (front ++ more.0, more.1)

and_more-same : (found : Option (Attribute × List ℕ)) (text : List ℕ) (f g : List ℕ → List Attribute × List ℕ) → ((x : Attribute × List ℕ) → found ≡ Some x → f x.1 ≡ g x.1) → and_more found text f ≡ and_more found text g
and_more-same None text f g h = refl
and_more-same (Some x) text f g h = ap (behind_attributes (x.0 ∷ [])) (h x refl)

-- more attributes than there are bytes need not be looked for
attributes-enough : (k m n : ℕ) (text : List ℕ) → length text ≤ k → length text ≤ m → attributes_within k n text ≡ attributes_within m n text
unfolding attributes_within attribute_behind_blanks
attributes-enough zero zero n text a b = refl
attributes-enough zero (suc m) n [] a b = refl
attributes-enough zero (suc m) n (c ∷ cs) a b = absurd (omega arith)
attributes-enough (suc k) zero n [] a b = refl
attributes-enough (suc k) zero n (c ∷ cs) a b = absurd (omega arith)
attributes-enough (suc k) (suc m) n text a b =
    and_more-same (attribute_behind_blanks n text) text (attributes_within k n) (attributes_within m n)
    (λ x e. let less = behind_blanks-shorter n text x e in attributes-enough k m n x.1 (omega arith) (omega arith))

-- one attribute more
pub attributes-more : (n : ℕ) (text : List ℕ) (found : Attribute × List ℕ) → attribute_behind_blanks n text ≡ Some found → attributes_at n text ≡ behind_attributes (found.0 ∷ []) (attributes_at n found.1)
unfolding attributes_within
attributes-more n [] found e = absurd (let less = behind_blanks-shorter n [] found e in omega arith)
attributes-more n (c ∷ cs) found e =
    let less = behind_blanks-shorter n (c ∷ cs) found e in
    rw e (ap (behind_attributes (found.0 ∷ [])) (attributes-enough (length cs) (length found.1) n found.1 (omega arith) (omega arith)))

pub attributes-end : (n : ℕ) (text : List ℕ) → attribute_behind_blanks n text ≡ None → attributes_at n text ≡ ([], text)
unfolding attributes_within
attributes-end n [] e = refl
attributes-end n (c ∷ cs) e = rw e refl

-- the attributes that are read so far, with one more
pub attributes-step : (front : List Attribute) (n : ℕ) (text : List ℕ) (found : Attribute × List ℕ) (all : List Attribute × List ℕ) → attribute_behind_blanks n text ≡ Some found
    → behind_attributes front (attributes_at n text) ≡ all → behind_attributes (front ++ found.0 ∷ []) (attributes_at n found.1) ≡ all
attributes-step front n text found all e so_far =
    ap (λ xs. (xs, (attributes_at n found.1).1)) (append_assoc front (found.0 ∷ []) (attributes_at n found.1).0)
    ∙ ap (behind_attributes front) (sym (attributes-more n text found e)) ∙ so_far
