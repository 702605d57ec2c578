-- A decimal with a digit in front is digits, then perhaps a fraction, then perhaps an exponent.
use Rattle.std.proofs.Common.{◌≡◌, ℕ, zero, suc, ◌+◌, ◌<◌, ◌≤◌, Bool, true, false, cond, not, ◌&&◌, ◌||◌, ◌==◌, List, [], ◌∷◌, ◌++◌, length, take, drop, get_or, refl, sym, ap, subst, ◌∙◌, ◌⊎◌, inl, inr, ⊎_elim, append_assoc, append-nil, length-append, length-take, length-drop, take-append-drop, arith}
use Rattle.std.proofs.Math.Seq.{take-add}
use Rattle.std.specs.Char.{is_ascii_digit}
use Rattle.std.specs.List.{list_all}
use Rattle.std.proofs.lemmas.Bool.{and_parts, and_from, or_right, both_ways, cases_lt, cases_Bool, cond-true, cond-false, false≢true}
use Rattle.std.proofs.lemmas.Bool.Decides.{nat_tests}
use Rattle.std.proofs.lemmas.List.{drop_at, get_or-take}
use Rattle.quantities.specs.Decimals.{are_digits, before, behind, has, is_mark, is_mantissa, is_decimal, without_sign}
use Rattle.quantities.specs.declared.mark.Mark.{Mark}
use Rattle.quantities.specs.declared.mark.Mark.TheVariants.{Point, Exponent}
use Rattle.expr_tokens.specs.Longest.{longest}
use Rattle.expr_tokens.specs.NumeralParts.{is_fraction, is_signed, is_exponent}
use Rattle.expr_tokens.proofs.LongestFronts.{longest-is, longest-le, longest-passes, longest-front}
use Rattle.expr_tokens.proofs.DigitLemmas.{digits-some, digits-all, digits-stop, fraction-other}

-- ---- what stands before and behind a mark

before-none : (mark : Mark) (text : List ℕ) → has mark text ≡ false → before mark text ≡ text
before-none mark [] none = refl
before-none mark (c ∷ cs) none =
    elim (is_mark mark c) as (λ b. b || has mark cs ≡ false → cond b [] (c ∷ before mark cs) ≡ c ∷ cs)
    [ true ↦ λ e. absurd (false≢true (sym e)) | false ↦ λ e. ap (λ (xs : List ℕ). c ∷ xs) (before-none mark cs e) ] none

-- a mark stands between them
at-mark : (mark : Mark) (text : List ℕ) → has mark text ≡ true → (c : ℕ) × (is_mark mark c ≡ true) × (text ≡ before mark text ++ c ∷ behind mark text)
at-mark mark [] some = absurd (false≢true some)
at-mark mark (c ∷ cs) some =
    elim (is_mark mark c) as (λ b. is_mark mark c ≡ b → b || has mark cs ≡ true → (d : ℕ) × (is_mark mark d ≡ true) × (c ∷ cs ≡ cond b [] (c ∷ before mark cs) ++ d ∷ cond b cs (behind mark cs))) [
      | true ↦ λ e _. (c, e, refl)
      | false ↦ λ _ rest. let found = at-mark mark cs rest in (found.0, found.1, ap (λ (xs : List ℕ). c ∷ xs) found.2)
    ] refl some

-- a front without the mark changes nothing
no-front : (mark : Mark) (front rest : List ℕ) → has mark front ≡ false
    → (before mark (front ++ rest) ≡ front ++ before mark rest) × (behind mark (front ++ rest) ≡ behind mark rest) × (has mark (front ++ rest) ≡ has mark rest)
no-front mark [] rest none = (refl, refl, refl)
no-front mark (c ∷ cs) rest none =
    elim (is_mark mark c) as (λ b. b || has mark cs ≡ false → (cond b [] (c ∷ before mark (cs ++ rest)) ≡ c ∷ (cs ++ before mark rest))
    × (cond b (cs ++ rest) (behind mark (cs ++ rest)) ≡ behind mark rest) × (b || has mark (cs ++ rest) ≡ has mark rest)) [
      | true ↦ λ e. absurd (false≢true (sym e))
      | false ↦ λ e. let more = no-front mark cs rest e in (ap (λ (xs : List ℕ). c ∷ xs) more.0, more.1, more.2)
    ] none

digit-no_mark : (mark : Mark) (c : ℕ) → is_ascii_digit c ≡ true → is_mark mark c ≡ false
digit-no_mark Point c digit = grind (arith, nat_tests)
digit-no_mark Exponent c digit = grind (arith, nat_tests)

digits-no_mark : (mark : Mark) (ds : List ℕ) → list_all is_ascii_digit ds ≡ true → has mark ds ≡ false
digits-no_mark mark [] all = refl
digits-no_mark mark (d ∷ ds) all =
    let parts = and_parts (is_ascii_digit d) (list_all is_ascii_digit ds) all in
    ap (λ b. b || has mark ds) (digit-no_mark mark d parts.0) ∙ digits-no_mark mark ds parts.1

mark-no_digit : (mark : Mark) (c : ℕ) → is_mark mark c ≡ true → is_ascii_digit c ≡ false
mark-no_digit Point c mark = grind (arith, nat_tests)
mark-no_digit Exponent c mark = grind (arith, nat_tests)

exponent-no_point : (c : ℕ) → is_mark Exponent c ≡ true → is_mark Point c ≡ false
exponent-no_point c mark = grind (arith, nat_tests)

-- ---- the parts

-- such a part, or nothing
abbrev pub Part : (List ℕ → Bool) → List ℕ → Type 0
Part test xs = (xs ≡ []) ⊎ (test xs ≡ true)

pub record IsNumeral (text : List ℕ) : Type 0 where
  pub whole : List ℕ
  pub fraction : List ℕ
  pub exponent : List ℕ
  pub joined : text ≡ whole ++ (fraction ++ exponent)
  pub digits : are_digits 40 whole ≡ true
  pub fractional : Part is_fraction fraction
  pub exponential : Part is_exponent exponent

-- a digit in front is no sign
unsigned : (text : List ℕ) → is_ascii_digit (get_or text 0 0) ≡ true → without_sign text ≡ text
unsigned [] digit = refl
unsigned (c ∷ cs) digit =
    let other : ((c == 43) || (c == 45)) ≡ false = grind (arith, nat_tests) in
    cond-false ((c == 43) || (c == 45)) cs (c ∷ cs) other

either : (there good : Bool) → (not there || good) ≡ true → (there ≡ false) ⊎ (good ≡ true)
either true good h = inr h
either false good h = inl refl

-- a mantissa is digits and perhaps a fraction
record IsMantissa (text : List ℕ) : Type 0 where
  pub whole : List ℕ
  pub fraction : List ℕ
  pub joined : text ≡ whole ++ fraction
  pub digits : are_digits 40 whole ≡ true
  pub fractional : Part is_fraction fraction

mantissa-parts : (text : List ℕ) → is_mantissa text ≡ true → IsMantissa text
mantissa-parts text h =
    let parts = and_parts (are_digits 40 (before Point text)) (not (has Point text) || are_digits 40 (behind Point text)) h in
    ⊎_elim
    (λ none. record {
      whole = before Point text;
      fraction = [];
      joined = sym (before-none Point text none) ∙ sym (append-nil (before Point text));
      digits = parts.0;
      fractional = inl refl;
    })
    (λ some.
    let mark = at-mark Point text some in
    let good : are_digits 40 (behind Point text) ≡ true =
    ⊎_elim (λ none. absurd (both_ways _ none some)) (λ e. e) (either (has Point text) (are_digits 40 (behind Point text)) parts.1) in
    record {
      whole = before Point text;
      fraction = mark.0 ∷ behind Point text;
      joined = mark.2;
      digits = parts.0;
      fractional = inr (and_from _ _ mark.1 good);
    })
    (⊎_elim (λ e. inr e) (λ e. inl e) (cases_Bool (has Point text)))

pub decimal-parts : (text : List ℕ) → is_ascii_digit (get_or text 0 0) ≡ true → is_decimal text ≡ true → IsNumeral text
unfolding is_decimal
decimal-parts text digit h =
    let plain = unsigned text digit in
    let whole : is_mantissa (before Exponent text) && (not (has Exponent text) || are_digits 2 (without_sign (behind Exponent text))) ≡ true =
    ap (λ t. is_mantissa (before Exponent t) && (not (has Exponent t) || are_digits 2 (without_sign (behind Exponent t)))) (sym plain) ∙ h in
    let parts = and_parts (is_mantissa (before Exponent text)) (not (has Exponent text) || are_digits 2 (without_sign (behind Exponent text))) whole in
    let m = mantissa-parts (before Exponent text) parts.0 in
    ⊎_elim
    (λ some.
    let mark = at-mark Exponent text some in
    let good : are_digits 2 (without_sign (behind Exponent text)) ≡ true =
    ⊎_elim (λ none. absurd (both_ways _ none some)) (λ e. e) (either (has Exponent text) (are_digits 2 (without_sign (behind Exponent text))) parts.1) in
    record {
      whole = m.whole;
      fraction = m.fraction;
      exponent = mark.0 ∷ behind Exponent text;
      joined = mark.2 ∙ ap (λ t. t ++ mark.0 ∷ behind Exponent text) m.joined ∙ append_assoc m.whole m.fraction (mark.0 ∷ behind Exponent text);
      digits = m.digits;
      fractional = m.fractional;
      exponential = inr (and_from _ _ mark.1 good);
    })
    (λ none. record {
      whole = m.whole;
      fraction = m.fraction;
      exponent = [];
      joined = sym (before-none Exponent text none) ∙ m.joined ∙ ap (λ t. m.whole ++ t) (sym (append-nil m.fraction));
      digits = m.digits;
      fractional = m.fractional;
      exponential = inl refl;
    })
    (cases_Bool (has Exponent text))

-- ---- and the other way

fraction-no_exponent : (f : List ℕ) → Part is_fraction f → has Exponent f ≡ false
fraction-no_exponent [] part = refl
fraction-no_exponent (c ∷ cs) part = ⊎_elim (λ none. absurd (cc))
    (λ h.
    let parts = and_parts (is_mark Point c) (are_digits 40 cs) h in
    let other : is_mark Exponent c ≡ false = point-no_exponent c parts.0 in
    ap (λ b. b || has Exponent cs) other ∙ digits-no_mark Exponent cs (digits-all 40 cs parts.1))
    part
  where
    point-no_exponent : (d : ℕ) → is_mark Point d ≡ true → is_mark Exponent d ≡ false
    point-no_exponent d mark = grind (arith, nat_tests)

mantissa-from : (w f : List ℕ) → are_digits 40 w ≡ true → Part is_fraction f → is_mantissa (w ++ f) ≡ true
mantissa-from w f digits part =
    let front = no-front Point w f (digits-no_mark Point w (digits-all 40 w digits)) in
    and_from _ _ (ap (are_digits 40) (front.0 ∙ ap (λ t. w ++ t) (start f part) ∙ append-nil w) ∙ digits)
    (ap (λ b. not b || are_digits 40 (behind Point (w ++ f))) front.2 ∙ ap (λ t. not (has Point f) || are_digits 40 t) front.1 ∙ rest f part)
  where
    start : (xs : List ℕ) → Part is_fraction xs → before Point xs ≡ []
    start [] p = refl
    start (c ∷ cs) p = ⊎_elim (λ none. absurd (cc)) (λ h. cond-true (is_mark Point c) [] (c ∷ before Point cs) (and_parts (is_mark Point c) (are_digits 40 cs) h).0) p

    rest : (xs : List ℕ) → Part is_fraction xs → (not (has Point xs) || are_digits 40 (behind Point xs)) ≡ true
    rest [] p = refl
    rest (c ∷ cs) p = ⊎_elim (λ none. absurd (cc))
        (λ h.
        let parts = and_parts (is_mark Point c) (are_digits 40 cs) h in
        or_right (not (has Point (c ∷ cs))) (are_digits 40 (behind Point (c ∷ cs)))
        (ap (are_digits 40) (cond-true (is_mark Point c) cs (behind Point cs) parts.0) ∙ parts.1)) p

first-digit : (w rest : List ℕ) → are_digits 40 w ≡ true → is_ascii_digit (get_or (w ++ rest) 0 0) ≡ true
first-digit [] rest digits = absurd (omega (arith, digits-some 40 [] digits))
first-digit (c ∷ w) rest digits = (and_parts (is_ascii_digit c) (list_all is_ascii_digit w) (digits-all 40 (c ∷ w) digits)).0

decimal-from : (w f e : List ℕ) → are_digits 40 w ≡ true → Part is_fraction f → Part is_exponent e → is_decimal (w ++ (f ++ e)) ≡ true
unfolding is_decimal
decimal-from w f e digits fractional exponential =
    let text : List ℕ = w ++ (f ++ e) in
    let plain : without_sign text ≡ text = unsigned text (first-digit w (f ++ e) digits) in
    let outer = no-front Exponent w (f ++ e) (digits-no_mark Exponent w (digits-all 40 w digits)) in
    let inner = no-front Exponent f e (fraction-no_exponent f fractional) in
    let mantissa : before Exponent text ≡ w ++ f =
    outer.0 ∙ ap (λ t. w ++ t) (inner.0 ∙ ap (λ t. f ++ t) (start e exponential) ∙ append-nil f) in
    ap (λ t. is_mantissa (before Exponent t) && (not (has Exponent t) || are_digits 2 (without_sign (behind Exponent t)))) plain
    ∙ and_from _ _ (ap is_mantissa mantissa ∙ mantissa-from w f digits fractional)
    (ap (λ b. not b || are_digits 2 (without_sign (behind Exponent text))) (outer.2 ∙ inner.2)
    ∙ ap (λ t. not (has Exponent e) || are_digits 2 (without_sign t)) (outer.1 ∙ inner.1)
    ∙ rest e exponential)
  where
    start : (xs : List ℕ) → Part is_exponent xs → before Exponent xs ≡ []
    start [] p = refl
    start (c ∷ cs) p = ⊎_elim (λ none. absurd (cc)) (λ h. cond-true (is_mark Exponent c) [] (c ∷ before Exponent cs) (and_parts (is_mark Exponent c) (is_signed cs) h).0) p

    rest : (xs : List ℕ) → Part is_exponent xs → (not (has Exponent xs) || are_digits 2 (without_sign (behind Exponent xs))) ≡ true
    rest [] p = refl
    rest (c ∷ cs) p = ⊎_elim (λ none. absurd (cc))
        (λ h.
        let parts = and_parts (is_mark Exponent c) (is_signed cs) h in
        or_right (not (has Exponent (c ∷ cs))) (are_digits 2 (without_sign (behind Exponent (c ∷ cs))))
        (ap (λ t. are_digits 2 (without_sign t)) (cond-true (is_mark Exponent c) cs (behind Exponent cs) parts.0) ∙ parts.1)) p

-- ---- the longest

-- digits end at a byte that is none, and so does a fraction
whole-stops : (w rest : List ℕ) (x : ℕ) → are_digits 40 w ≡ true → is_ascii_digit x ≡ false → longest (are_digits 40) (w ++ x ∷ rest) ≡ length w
whole-stops w rest x digits other =
    let most = longest-le (are_digits 40) (w ++ x ∷ rest) in
    let least = longest-front (are_digits 40) w (x ∷ rest) digits in
    let some = digits-some 40 w digits in
    let high = digits-stop 40 w rest x (longest (are_digits 40) (w ++ x ∷ rest)) other (longest-passes (are_digits 40) (w ++ x ∷ rest) (omega arith)) in
    omega arith

fraction-stops : (f rest : List ℕ) (x : ℕ) → is_fraction f ≡ true → is_ascii_digit x ≡ false → longest is_fraction (f ++ x ∷ rest) ≡ length f
fraction-stops [] rest x part other = absurd (false≢true part)
fraction-stops (c ∷ cs) rest x part other =
    let text : List ℕ = (c ∷ cs) ++ x ∷ rest in
    let least = longest-front is_fraction (c ∷ cs) (x ∷ rest) part in
    let high = reach (longest is_fraction text) (longest-passes is_fraction text (omega arith)) in
    omega arith
  where
    reach : (m : ℕ) → is_fraction (take m ((c ∷ cs) ++ x ∷ rest)) ≡ true → m ≤ length (c ∷ cs)
    reach zero passes = omega arith
    reach (suc m) passes = omega (arith, digits-stop 40 cs rest x m other (and_parts (is_mark Point c) (are_digits 40 (take m (cs ++ x ∷ rest))) passes).1)

-- the bytes of the longest parts, each behind the one before
abbrev pub whole_of : List ℕ → ℕ
whole_of text = longest (are_digits 40) text

abbrev pub fraction_of : List ℕ → ℕ
fraction_of text = longest is_fraction (drop (whole_of text) text)

abbrev pub exponent_of : List ℕ → ℕ
exponent_of text = longest is_exponent (drop (whole_of text + fraction_of text) text)

-- the parts of each front reach no further
reaches : (w f e rest : List ℕ) → are_digits 40 w ≡ true → Part is_fraction f → Part is_exponent e
    → length w + length f + length e ≤ whole_of (w ++ (f ++ (e ++ rest))) + fraction_of (w ++ (f ++ (e ++ rest))) + exponent_of (w ++ (f ++ (e ++ rest)))
reaches w [] [] rest digits fractional exponential = omega (arith, longest-front (are_digits 40) w rest digits)
reaches w (c ∷ cs) [] rest digits fractional exponential = ⊎_elim (λ none. absurd (cc))
    (λ part.
    let text : List ℕ = w ++ ((c ∷ cs) ++ rest) in
    let mark = (and_parts (is_mark Point c) (are_digits 40 cs) part).0 in
    let whole : whole_of text ≡ length w = whole-stops w (cs ++ rest) c digits (mark-no_digit Point c mark) in
    let left : drop (whole_of text) text ≡ (c ∷ cs) ++ rest = drop_at w ((c ∷ cs) ++ rest) (whole_of text) (sym whole) in
    let least = longest-front is_fraction (c ∷ cs) rest part in
    omega (arith, ap (longest is_fraction) left))
    fractional
reaches w [] (c ∷ cs) rest digits fractional exponential = ⊎_elim (λ none. absurd (cc))
    (λ part.
    let text : List ℕ = w ++ ((c ∷ cs) ++ rest) in
    let mark = (and_parts (is_mark Exponent c) (is_signed cs) part).0 in
    let whole : whole_of text ≡ length w = whole-stops w (cs ++ rest) c digits (mark-no_digit Exponent c mark) in
    let left : drop (whole_of text) text ≡ (c ∷ cs) ++ rest = drop_at w ((c ∷ cs) ++ rest) (whole_of text) (sym whole) in
    let none : fraction_of text ≡ 0 = ap (longest is_fraction) left ∙ fraction-other c (cs ++ rest) (exponent-no_point c mark) in
    let at : drop (whole_of text + fraction_of text) text ≡ (c ∷ cs) ++ rest = drop_at w ((c ∷ cs) ++ rest) (whole_of text + fraction_of text) (omega arith) in
    let least = longest-front is_exponent (c ∷ cs) rest part in
    omega (arith, ap (longest is_exponent) at))
    exponential
reaches w (c ∷ cs) (d ∷ ds) rest digits fractional exponential = ⊎_elim (λ none. absurd (cc))
    (λ part. ⊎_elim (λ none. absurd (cc))
    (λ last.
    let text : List ℕ = w ++ ((c ∷ cs) ++ ((d ∷ ds) ++ rest)) in
    let point = (and_parts (is_mark Point c) (are_digits 40 cs) part).0 in
    let mark = (and_parts (is_mark Exponent d) (is_signed ds) last).0 in
    let whole : whole_of text ≡ length w = whole-stops w (cs ++ ((d ∷ ds) ++ rest)) c digits (mark-no_digit Point c point) in
    let left : drop (whole_of text) text ≡ (c ∷ cs) ++ ((d ∷ ds) ++ rest) = drop_at w ((c ∷ cs) ++ ((d ∷ ds) ++ rest)) (whole_of text) (sym whole) in
    let middle : fraction_of text ≡ length (c ∷ cs) = ap (longest is_fraction) left ∙ fraction-stops (c ∷ cs) (ds ++ rest) d part (mark-no_digit Exponent d mark) in
    let regrouped : text ≡ (w ++ (c ∷ cs)) ++ ((d ∷ ds) ++ rest) = sym (append_assoc w (c ∷ cs) ((d ∷ ds) ++ rest)) in
    let at : drop (whole_of text + fraction_of text) text ≡ (d ∷ ds) ++ rest =
    ap (drop (whole_of text + fraction_of text)) regrouped
    ∙ drop_at (w ++ (c ∷ cs)) ((d ∷ ds) ++ rest) (whole_of text + fraction_of text) (omega (arith, length-append w (c ∷ cs))) in
    let least = longest-front is_exponent (d ∷ ds) rest last in
    omega (arith, ap (longest is_exponent) at))
    exponential)
    fractional

part-of : (test : List ℕ → Bool) (text : List ℕ) → Part test (take (longest test text) text)
part-of test text = ⊎_elim
    (λ some. inr (longest-passes test text some))
    (λ none. let zero : longest test text ≡ 0 = omega arith in inl (ap (λ n. take n text) zero))
    (cases_lt 0 (longest test text))

digits-one : (text : List ℕ) → is_ascii_digit (get_or text 0 0) ≡ true → 0 < whole_of text
digits-one [] digit = absurd (false≢true digit)
digits-one (c ∷ cs) digit = longest-front (are_digits 40) (c ∷ []) cs (ap (λ b. b && true) digit)

pub decimal-empty : is_decimal [] ≡ false
unfolding is_decimal
decimal-empty = refl

pub front-digit : (m : ℕ) (text : List ℕ) → is_ascii_digit (get_or text 0 0) ≡ true → is_decimal (take m text) ≡ true → is_ascii_digit (get_or (take m text) 0 0) ≡ true
front-digit zero text digit passes = absurd (both_ways _ decimal-empty passes)
front-digit (suc m) text digit passes = ap is_ascii_digit (get_or-take (suc m) text 0 0 (omega arith)) ∙ digit

-- digits, a fraction and an exponent, each the longest, are the longest decimal
pub numeral-longest : (text : List ℕ) → is_ascii_digit (get_or text 0 0) ≡ true → whole_of text + fraction_of text + exponent_of text ≡ longest is_decimal text
numeral-longest text digit =
    let w : ℕ = whole_of text in
    let f : ℕ = fraction_of text in
    let e : ℕ = exponent_of text in
    let within : w + f + e ≤ length text =
    omega (arith, longest-le (are_digits 40) text, longest-le is_fraction (drop w text), longest-le is_exponent (drop (w + f) text), length-drop w text, length-drop (w + f) text) in
    let cut : take (w + f + e) text ≡ take w text ++ (take f (drop w text) ++ take e (drop (w + f) text)) =
    take-add (w + f) e text ∙ ap (λ t. t ++ take e (drop (w + f) text)) (take-add w f text)
    ∙ append_assoc (take w text) (take f (drop w text)) (take e (drop (w + f) text)) in
    sym (longest-is is_decimal (w + f + e) text within
    (λ some. ap is_decimal cut ∙ decimal-from (take w text) (take f (drop w text)) (take e (drop (w + f) text))
    (longest-passes (are_digits 40) text (digits-one text digit)) (part-of is_fraction (drop w text)) (part-of is_exponent (drop (w + f) text)))
    (λ m le passes. front m le passes))
  where
    front : (m : ℕ) → m ≤ length text → is_decimal (take m text) ≡ true → m ≤ whole_of text + fraction_of text + exponent_of text
    front m le passes =
        let parts = decimal-parts (take m text) (front-digit m text digit passes) passes in
        let all : text ≡ parts.whole ++ (parts.fraction ++ (parts.exponent ++ drop m text)) =
        sym (take-append-drop m text) ∙ ap (λ t. t ++ drop m text) parts.joined
        ∙ append_assoc parts.whole (parts.fraction ++ parts.exponent) (drop m text)
        ∙ ap (λ t. parts.whole ++ t) (append_assoc parts.fraction parts.exponent (drop m text)) in
        let low = reaches parts.whole parts.fraction parts.exponent (drop m text) parts.digits parts.fractional parts.exponential in
        let here = subst (λ t. length parts.whole + length parts.fraction + length parts.exponent ≤ whole_of t + fraction_of t + exponent_of t) (sym all) low in
        omega (arith, ap length parts.joined, length-append parts.whole (parts.fraction ++ parts.exponent), length-append parts.fraction parts.exponent, length-take m text)
