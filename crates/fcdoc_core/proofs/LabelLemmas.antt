-- Where a path with a label in front ends in a text.
use Rattle.std.proofs.Common.{◌≡◌, ◌⊎◌, inl, inr, ◌+◌, ◌-◌, ◌≤◌, ℕ, ◌==◌, ◌&&◌, None, Some, List, [], ◌∷◌, ◌++◌, length, take, get_or, refl, sym, ap, subst, ◌∙◌, append-nil, append_assoc, arith}
use Rattle.std.specs.Option.{option_map}
use Rattle.std.specs.Str.{IsCharBoundary}
use Rattle.std.proofs.lemmas.Bool.{eqb-true}
use Rattle.std.proofs.lemmas.List.{length-append, get_or_at}
use Rattle.std.proofs.lemmas.Str.{IsCharBoundary-end, IsCharBoundary-before_ascii}
use Rattle.std.proofs.Math.Seq.{take-append_seam}
use Rattle.object_paths.specs.PathParts.{opened, until_closing}
use Rattle.fcdoc_core.specs.Commands.{cut_word, cut_path}
use Rattle.fcdoc_core.specs.Spelling.{spaces}
use Rattle.fcdoc_core.proofs.SpellingLemmas.{both_true, chosen, map_some, cut_of}

opened_text : (text rest : List ℕ) → opened text ≡ Some rest → text ≡ 60 ∷ 60 ∷ rest
opened_text [] rest e = absurd (cc)
opened_text (a ∷ []) rest e = absurd (cc)
opened_text (a ∷ b ∷ more) rest e = elim (chosen ((a == 60) && (b == 60)) (Some more) None (Some rest) e) [
  | inl is ↦
      let marks = both_true (a == 60) (b == 60) is.0 in
      let one = eqb-true a 60 marks.0 in
      let two = eqb-true b 60 marks.1 in
      let same : more ≡ rest = let found = is.1 in cc in
      rw (one, two, same) refl
  | inr other ↦ let none = other.1 in absurd (cc)
]

closed_text : (text : List ℕ) (p : List ℕ × List ℕ) → until_closing text ≡ Some p → text ≡ p.0 ++ 62 ∷ 62 ∷ p.1
closed_text [] p e = absurd (cc)
closed_text (a ∷ []) p e = absurd (cc)
closed_text (a ∷ b ∷ more) p e = elim (chosen ((a == 62) && (b == 62)) (Some ([], more)) (option_map (λ q. (a ∷ q.0, q.1)) (until_closing (b ∷ more))) (Some p) e) [
  | inl is ↦
      let marks = both_true (a == 62) (b == 62) is.0 in
      let same : ([], more) ≡ p = let found = is.1 in cc in
      subst (λ (q : List ℕ × List ℕ). a ∷ b ∷ more ≡ q.0 ++ 62 ∷ 62 ∷ q.1) same (rw (eqb-true a 62 marks.0, eqb-true b 62 marks.1) refl)
  | inr later ↦
      let found = map_some (λ (q : List ℕ × List ℕ). (a ∷ q.0, q.1)) (until_closing (b ∷ more)) p later.1 in
      subst (λ (q : List ℕ × List ℕ). a ∷ b ∷ more ≡ q.0 ++ 62 ∷ 62 ∷ q.1) found.2 (ap (λ t. a ∷ t) (closed_text (b ∷ more) found.0 found.1))
]

-- a text ends, or a space is next
abbrev IsEnd : List ℕ → Type 0
IsEnd more = (more ≡ []) ⊎ ((m : List ℕ) × (more ≡ 32 ∷ m))

record Begins (text first : List ℕ) : Type 0 where
  more : List ℕ
  stands : text ≡ first ++ more
  end : IsEnd more

word_begins : (text : List ℕ) → Begins text (cut_word text).first
word_begins text = elim (cut_of text) [
  | inl lone ↦ record { more = []; stands = sym lone.first ∙ sym (append-nil (cut_word text).first); end = inl refl }
  | inr cut ↦ record { more = 32 ∷ (spaces cut.between ++ ((cut_word text).rest ++ spaces cut.behind)); stands = cut.stands; end = inr (spaces cut.between ++ ((cut_word text).rest ++ spaces cut.behind), refl) }
]

seam_boundary : (text front more : List ℕ) → text ≡ front ++ more → IsEnd more → IsCharBoundary text (length front)
seam_boundary text front more stands (inl e) =
    subst (IsCharBoundary text) (ap length (stands ∙ ap (λ t. front ++ t) e ∙ append-nil front)) (IsCharBoundary-end text)
seam_boundary text front more stands (inr (m, e)) =
    let s : text ≡ front ++ 32 ∷ m = stands ∙ ap (λ t. front ++ t) e in
    let size : length text ≡ length front + length (32 ∷ m) = ap length s ∙ length-append front (32 ∷ m) in
    let here : get_or text (length front) 0 ≡ 32 = ap (λ t. get_or t (length front) 0) s ∙ get_or_at front 32 m 0 (length front) refl in
    IsCharBoundary-before_ascii text (length front) (omega arith) (omega arith)

regroup_label : (label first more : List ℕ) → 60 ∷ 60 ∷ (label ++ 62 ∷ 62 ∷ (first ++ more)) ≡ (60 ∷ 60 ∷ (label ++ 62 ∷ 62 ∷ first)) ++ more
regroup_label label first more = simp append_assoc

module _ (text behind opened_rest label : List ℕ) (is_opened : Some opened_rest ≡ opened text) (is_closed : until_closing opened_rest ≡ Some (label, behind)) where
  abbrev first : List ℕ
  first = (cut_word behind).first

  abbrev path : List ℕ
  path = 60 ∷ 60 ∷ (label ++ 62 ∷ 62 ∷ first)

  whole : text ≡ 60 ∷ 60 ∷ (label ++ 62 ∷ 62 ∷ behind)
  whole = opened_text text opened_rest (sym is_opened) ∙ ap (λ t. 60 ∷ 60 ∷ t) (closed_text opened_rest (label, behind) is_closed)

  begins : Begins text path
  begins =
      let word = word_begins behind in
      record { more = word.more; stands = whole ∙ ap (λ t. 60 ∷ 60 ∷ (label ++ 62 ∷ 62 ∷ t)) word.stands ∙ regroup_label label first word.more; end = word.end }

  size : length text ≡ 4 + (length label + length behind)
  size = ap length whole ∙ (let s = length-append label (62 ∷ 62 ∷ behind) in omega arith)

  pub label_fits : length behind ≤ length text
  label_fits = omega (arith, size)

  index : length text - length behind + length first ≡ length path
  index = let s = length-append label (62 ∷ 62 ∷ first) in omega (arith, size)

  pub label_boundary : (end : List ℕ) → end ≡ first → IsCharBoundary text (length text - length behind + length end)
  label_boundary end e =
      subst (IsCharBoundary text) (sym (ap (λ (t : List ℕ). length text - length behind + length t) e ∙ index)) (seam_boundary text path begins.more begins.stands begins.end)

  pub label_path : (end taken : List ℕ) → end ≡ first → taken ≡ take (length text - length behind + length end) text → taken ≡ (cut_path text).first
  label_path end taken e is =
      is ∙ ap (λ (n : ℕ). take n text) (ap (λ (t : List ℕ). length text - length behind + length t) e ∙ index)
      ∙ ap (λ (t : List ℕ). take (length path) t) begins.stands ∙ take-append_seam path begins.more
      ∙ (rw (sym is_opened, is_closed) refl)
