-- The longest front of a text that spells a word, found character by character.
use Rattle.std.proofs.Common.{◌≡◌, ℕ, ◌+◌, ◌-◌, ◌≤◌, Bool, true, false, List, [], ◌∷◌, ◌++◌, length, take, drop, refl, sym, ap, subst, ◌∙◌, append_assoc, length-append, length-take, take-append-drop, ⊎_elim, arith}
use Rattle.std.proofs.Math.Utf8.{scalars, encodes, encode}
use Rattle.std.specs.List.{list_all}
use Rattle.std.specs.Str.{chars, is_utf8, IsUtf8, IsCharBoundary}
use Rattle.std.proofs.lemmas.Bool.{and_parts, and_from, both_ways, cases_lt, false≢true}
use Rattle.std.proofs.lemmas.List.{take_at}
use Rattle.std.proofs.lemmas.Str.{IsUtf8-from_is_utf8, is_utf8-from_IsUtf8, chars-encodes, encodes-chars, encodes-append, cons_from_encodes, length-encode, len_utf8_bounds, IsCharBoundary-start, IsCharBoundary-from_take}
use Rattle.unicode_ident.specs.Ident.{is_xid_continue}
use Rattle.fc_base.specs.Texts.{begins_name, spells_name}
use Rattle.expr_tokens.specs.Lexemes.{spells_word}
use Rattle.expr_tokens.specs.Longest.{longest}
use Rattle.expr_tokens.proofs.LongestFronts.{longest-is, longest-le, longest-passes}

scalars-append : (cs ds : List ℕ) → scalars cs ≡ true → scalars ds ≡ true → scalars (cs ++ ds) ≡ true
scalars-append [] ds first second = second
scalars-append (c ∷ cs) ds first second =
    let parts = and_parts _ (scalars cs) first in and_from _ _ parts.0 (scalars-append cs ds parts.1 second)

-- a word is characters that spell a name
word-from_chars : (cs : List ℕ) → scalars cs ≡ true → spells_name cs ≡ true → spells_word (encodes cs) ≡ true
word-from_chars cs valid spells =
    and_from _ _ (is_utf8-from_IsUtf8 (encodes cs) (cs, (valid, refl))) (ap spells_name (chars-encodes cs valid) ∙ spells)

word-encodes : (text : List ℕ) → spells_word text ≡ true → encodes (chars text) ≡ text
word-encodes text word = encodes-chars text (IsUtf8-from_is_utf8 text (and_parts _ _ word).0)

word-spells : (text : List ℕ) → spells_word text ≡ true → spells_name (chars text) ≡ true
word-spells text word = (and_parts (is_utf8 text) (spells_name (chars text)) word).1

-- the characters of a front are the first characters
chars-front : (gs cs r : List ℕ) → encodes cs ≡ encodes gs ++ r → (hs : List ℕ) × (cs ≡ gs ++ hs)
chars-front [] cs r e = (cs, refl)
chars-front (g ∷ gs) cs r e =
    let first = cons_from_encodes cs (encodes gs ++ r) g (e ∙ append_assoc (encode g) (encodes gs) r) in
    let rest = chars-front gs first.0 r first.2 in
    (rest.0, first.1 ∙ ap (λ (xs : List ℕ). g ∷ xs) rest.1)

-- no character in front passes
abbrev Stops : (ℕ → Bool) → List ℕ → Type 0
Stops p [] = Unit {0}
Stops p (c ∷ cs) = p c ≡ false

-- characters that pass reach no further than up to one that does not
run-front : (p : ℕ → Bool) (fs es gs hs : List ℕ) → fs ++ es ≡ gs ++ hs → list_all p gs ≡ true → Stops p es → (ks : List ℕ) × (fs ≡ gs ++ ks)
run-front p fs es [] hs e pass stops = (fs, refl)
run-front p [] [] (g ∷ gs) hs e pass stops = absurd (cc)
run-front p [] (c ∷ es) (g ∷ gs) hs e pass stops =
    let same : c ≡ g = cc in
    let passes : p g ≡ true = (and_parts (p g) (list_all p gs) pass).0 in
    absurd (both_ways (p c) stops (ap p same ∙ passes))
run-front p (f ∷ fs) es (g ∷ gs) hs e pass stops =
    let same : f ≡ g = cc in
    let tails : fs ++ es ≡ gs ++ hs = cc in
    let rest = run-front p fs es gs hs tails (and_parts (p g) (list_all p gs) pass).1 stops in
    (rest.0, (λ i. same i ∷ rest.1 i))

name-front : (fs es gs hs : List ℕ) → fs ++ es ≡ gs ++ hs → spells_name fs ≡ true → spells_name gs ≡ true → Stops is_xid_continue es → (ks : List ℕ) × (fs ≡ gs ++ ks)
name-front fs es [] hs e first second stops = (fs, refl)
name-front [] es (g ∷ gs) hs e first second stops = absurd (false≢true first)
name-front (f ∷ fs) es (g ∷ gs) hs e first second stops =
    let same : f ≡ g = cc in
    let tails : fs ++ es ≡ gs ++ hs = cc in
    let rest = run-front is_xid_continue fs es gs hs tails (and_parts (begins_name g) (list_all is_xid_continue gs) second).1 stops in
    (rest.0, (λ i. same i ∷ rest.1 i))

name-push : (cs : List ℕ) (c : ℕ) → spells_name cs ≡ true → is_xid_continue c ≡ true → spells_name (cs ++ c ∷ []) ≡ true
name-push [] c spells passes = absurd (false≢true spells)
name-push (d ∷ cs) c spells passes =
    let parts = and_parts (begins_name d) (list_all is_xid_continue cs) spells in
    and_from _ _ parts.0 (all-push cs parts.1)
  where
    all-push : (xs : List ℕ) → list_all is_xid_continue xs ≡ true → list_all is_xid_continue (xs ++ c ∷ []) ≡ true
    all-push [] all = and_from _ _ passes refl
    all-push (x ∷ xs) all = let p = and_parts (is_xid_continue x) (list_all is_xid_continue xs) all in and_from _ _ p.0 (all-push xs p.1)

-- the text is a word and what is left
pub record IsWordFront (text rest : List ℕ) : Type 0 where
  pub word : List ℕ
  pub more : List ℕ
  pub valid : scalars word ≡ true
  pub others : scalars more ≡ true
  pub split : encodes (word ++ more) ≡ text
  pub left : encodes more ≡ rest
  pub spells : spells_name word ≡ true

front-length : (text rest : List ℕ) → (w : IsWordFront text rest) → text ≡ encodes w.word ++ rest
front-length text rest w = sym w.split ∙ encodes-append w.word w.more ∙ ap (λ r. encodes w.word ++ r) w.left

pub word_front-short : (text rest : List ℕ) → IsWordFront text rest → length rest ≤ length text
word_front-short text rest w = omega (arith, ap length (front-length text rest w), length-append (encodes w.word) rest)

-- a word begins with a character that may
pub word_front-begins : (text rest : List ℕ) (c : ℕ) → IsUtf8 text → text ≡ encode c ++ rest → begins_name c ≡ true → IsWordFront text rest
word_front-begins text rest c utf8 e begins =
    let first = cons_from_encodes utf8.0 rest c (utf8.1.1 ∙ e) in
    let valid = and_parts _ (scalars first.0) (ap scalars (sym first.1) ∙ utf8.1.0) in
    record {
      word = c ∷ [];
      more = first.0;
      valid = and_from _ _ valid.0 refl;
      others = valid.1;
      split = ap encodes (sym first.1) ∙ utf8.1.1;
      left = first.2;
      spells = and_from _ _ begins refl;
    }

-- and goes on with one that may
pub word_front-more : (text here rest : List ℕ) (c : ℕ) → here ≡ encode c ++ rest → is_xid_continue c ≡ true → IsWordFront text here → IsWordFront text rest
word_front-more text here rest c e passes w =
    let first = cons_from_encodes w.more rest c (w.left ∙ e) in
    let valid = and_parts _ (scalars first.0) (ap scalars (sym first.1) ∙ w.others) in
    record {
      word = w.word ++ c ∷ [];
      more = first.0;
      valid = scalars-append w.word (c ∷ []) w.valid (and_from _ _ valid.0 refl);
      others = valid.1;
      split = ap encodes (append_assoc w.word (c ∷ []) first.0 ∙ ap (λ (xs : List ℕ). w.word ++ xs) (sym first.1)) ∙ w.split;
      left = first.2;
      spells = name-push w.word c w.spells passes;
    }

-- where nothing more goes on, it is the longest
word_front-stops : (text rest : List ℕ) → (w : IsWordFront text rest) → Stops is_xid_continue w.more → length text - length rest ≡ longest spells_word text
word_front-stops text rest w stops =
    let parts = front-length text rest w in
    let n : ℕ = length (encodes w.word) in
    let size : length text ≡ n + length rest = omega (arith, ap length parts, length-append (encodes w.word) rest) in
    let front : take n text ≡ encodes w.word = ap (take n) parts ∙ take_at (encodes w.word) rest n refl in
    let at : longest spells_word text ≡ n =
    longest-is spells_word n text (omega arith) (λ _. ap spells_word front ∙ word-from_chars w.word w.valid w.spells)
    (λ m le word.
    let gs : List ℕ = chars (take m text) in
    let reads : encodes gs ≡ take m text = word-encodes (take m text) word in
    let all : encodes (w.word ++ w.more) ≡ encodes gs ++ drop m text =
    w.split ∙ sym (take-append-drop m text) ∙ ap (λ t. t ++ drop m text) (sym reads) in
    let hs = chars-front gs (w.word ++ w.more) (drop m text) all in
    let ks = name-front w.word w.more gs hs.0 hs.1 w.spells (word-spells (take m text) word) stops in
    let longer : encodes w.word ≡ encodes gs ++ encodes ks.0 = ap encodes ks.1 ∙ encodes-append gs ks.0 in
    omega (arith, ap length longer, length-append (encodes gs) (encodes ks.0), ap length reads, length-take m text)) in
    omega arith

pub word_front-ends : (text rest : List ℕ) → length rest ≡ 0 → IsWordFront text rest → length text - length rest ≡ longest spells_word text
word_front-ends text rest none w = word_front-stops text rest w (empty w.more (omega (arith, ap length w.left)))
  where
    empty : (cs : List ℕ) → length (encodes cs) ≡ 0 → Stops is_xid_continue cs
    empty [] e = tt
    empty (c ∷ cs) e = absurd (omega (arith, length-append (encode c) (encodes cs), length-encode c, (len_utf8_bounds c).0))

pub word_front-cut : (text rest after : List ℕ) (c : ℕ) → rest ≡ encode c ++ after → is_xid_continue c ≡ false → IsWordFront text rest → length text - length rest ≡ longest spells_word text
word_front-cut text rest after c e fails w =
    let first = cons_from_encodes w.more after c (w.left ∙ e) in
    word_front-stops text rest w (stopped w.more first.0 first.1)
  where
    stopped : (cs es : List ℕ) → cs ≡ c ∷ es → Stops is_xid_continue cs
    stopped [] es e = tt
    stopped (d ∷ cs) es e = let same : d ≡ c = cc in ap is_xid_continue same ∙ fails

-- no word where no character may begin one
none-begins : (text cs : List ℕ) → encodes cs ≡ text → ((c : ℕ) (es : List ℕ) → cs ≡ c ∷ es → begins_name c ≡ false) → 0 ≡ longest spells_word text
none-begins text cs e none =
    sym (longest-is spells_word 0 text (omega arith) (λ some. absurd (omega arith)) (λ m le word.
    let gs : List ℕ = chars (take m text) in
    let all : encodes cs ≡ encodes gs ++ drop m text = e ∙ sym (take-append-drop m text) ∙ ap (λ t. t ++ drop m text) (sym (word-encodes (take m text) word)) in
    let hs = chars-front gs cs (drop m text) all in
    absurd (begun gs hs.0 hs.1 (word-spells (take m text) word))))
  where
    begun : (gs hs : List ℕ) → cs ≡ gs ++ hs → spells_name gs ≡ true → ⊥
    begun [] hs e spells = false≢true spells
    begun (g ∷ gs) hs e spells = both_ways (begins_name g) (none g (gs ++ hs) e) (and_parts (begins_name g) (list_all is_xid_continue gs) spells).0

pub no_word-empty : (text : List ℕ) → length text ≡ 0 → 0 ≡ longest spells_word text
no_word-empty text none = omega (arith, longest-le spells_word text)

pub no_word-cut : (text rest : List ℕ) (c : ℕ) → IsUtf8 text → text ≡ encode c ++ rest → begins_name c ≡ false → 0 ≡ longest spells_word text
no_word-cut text rest c utf8 e fails =
    let first = cons_from_encodes utf8.0 rest c (utf8.1.1 ∙ e) in
    none-begins text utf8.0 utf8.1.1 (λ d es same. let is : d ≡ c = cc (first.1) in ap begins_name is ∙ fails)

-- the text may be cut behind the word in front
pub word-boundary : (text : List ℕ) → IsUtf8 text → IsCharBoundary text (longest spells_word text)
word-boundary text utf8 = ⊎_elim
    (λ some.
    let word = longest-passes spells_word text some in
    IsCharBoundary-from_take text (longest spells_word text) utf8 (longest-le spells_word text) (IsUtf8-from_is_utf8 _ (and_parts _ _ word).0))
    (λ none. let zero : 0 ≡ longest spells_word text = omega arith in subst (IsCharBoundary text) zero (IsCharBoundary-start text utf8))
    (cases_lt 0 (longest spells_word text))
