-- Fronts of pieces and the text of all.
use Rattle.std.proofs.Common.{◌≡◌, ℕ, zero, suc, ◌+◌, ◌<◌, ◌≤◌, List, [], ◌∷◌, ◌++◌, length, take, drop, refl, sym, ap, ◌∙◌, append_assoc, append-nil, take-append-drop, arith, length-append, length-take}
use Rattle.fcdoc_core.specs.Delivery.{Front, IsProper, Remains, FrontsAreOfTheText, text_at, text_within}
use Rattle.fcdoc_core.specs.Top.{Piece, text_of}

-- something is left of a list behind fewer than it has
some_left : (n : ℕ) (text : List ℕ) → n < length text → 0 < length (drop n text)
some_left n [] h = absurd (omega (arith, h))
some_left zero (c ∷ text) h = omega arith
some_left (suc n) (c ∷ text) h = some_left n text (omega (arith, h))

take_nothing : (n : ℕ) → take {A = ℕ} n [] ≡ []
take_nothing zero = refl
take_nothing (suc n) = refl

remains : (pieces : List Piece) (k n : ℕ) → Remains pieces (record { whole = k; part = n })
remains [] zero n = record { rest = []; whole = sym (append-nil (take n []) ∙ take_nothing n); proper = λ h. absurd (omega (arith, h)) }
remains [] (suc k) n = record { rest = []; whole = sym (append-nil (take n []) ∙ take_nothing n); proper = λ h. absurd (omega (arith, h)) }
remains (p ∷ ps) zero n = record {
  rest = drop n p.text ++ text_of ps;
  whole = ap (λ (l : List ℕ). l ++ text_of ps) (sym (take-append-drop n p.text)) ∙ append_assoc (take n p.text) (drop n p.text) (text_of ps);
  proper = λ h. let some = some_left n p.text h in rw (length-append (drop n p.text) (text_of ps)) (omega arith);
}
remains (p ∷ ps) (suc k) n =
    let l = remains ps k n in
    let a = text_of (take k ps) in
    let b = take n (text_at ps k) in
    record {
      rest = l.rest;
      whole = ap (λ (t : List ℕ). p.text ++ t) l.whole ∙ sym (append_assoc p.text (a ++ b) l.rest) ∙ ap (λ (t : List ℕ). t ++ l.rest) (sym (append_assoc p.text a b));
      proper = l.proper;
    }

-- as many bytes of a list as are taken, where it has more
length-part : (n : ℕ) (text : List ℕ) → n < length text → length (take n text) ≡ n
length-part n [] h = absurd (omega (arith, h))
length-part zero (c ∷ text) h = refl
length-part (suc n) (c ∷ text) h = ap suc (length-part n text (omega (arith, h)))

-- a proper front is told by the length of its text
one : (pieces : List Piece) (k n l m : ℕ) → n < length (text_at pieces k) → m < length (text_at pieces l)
    → length (text_within pieces (record { whole = k; part = n })) ≡ length (text_within pieces (record { whole = l; part = m })) → (k ≡ l) × (n ≡ m)
one [] zero n l m p q e = absurd (omega (arith, p))
one [] (suc k) n l m p q e = absurd (omega (arith, p))
one (x ∷ xs) zero n zero m p q e = (refl, sym (length-part n x.text p) ∙ e ∙ length-part m x.text q)
one (x ∷ xs) zero n (suc l) m p q e =
    let short = length-part n x.text p in
    let long = length-append (x.text ++ text_of (take l xs)) (take m (text_at xs l)) in
    let front = length-append x.text (text_of (take l xs)) in
    absurd (omega (arith, p))
one (x ∷ xs) (suc k) n zero m p q e =
    let short = length-part m x.text q in
    let long = length-append (x.text ++ text_of (take k xs)) (take n (text_at xs k)) in
    let front = length-append x.text (text_of (take k xs)) in
    absurd (omega (arith, q))
one (x ∷ xs) (suc k) n (suc l) m p q e =
    let a = length-append (x.text ++ text_of (take k xs)) (take n (text_at xs k)) in
    let b = length-append x.text (text_of (take k xs)) in
    let c = length-append (x.text ++ text_of (take l xs)) (take m (text_at xs l)) in
    let d = length-append x.text (text_of (take l xs)) in
    let f = length-append (text_of (take k xs)) (take n (text_at xs k)) in
    let g = length-append (text_of (take l xs)) (take m (text_at xs l)) in
    let ih = one xs k n l m p q (omega (arith, e)) in
    (ap suc ih.0, ih.1)

same_front : (f g : Front) → f.whole ≡ g.whole → f.part ≡ g.part → f ≡ g
same_front f g w p = ap (λ (n : ℕ). record { whole = n; part = f.part }) w ∙ ap (λ (n : ℕ). record { whole = g.whole; part = n }) p

pub fronts_are_of_the_text : FrontsAreOfTheText
fronts_are_of_the_text = record {
  remains = λ pieces f. remains pieces f.whole f.part;
  one = λ pieces f g p q e.
      let same = one pieces f.whole f.part g.whole g.part p q (ap length e) in
      same_front f g same.0 same.1;
}
