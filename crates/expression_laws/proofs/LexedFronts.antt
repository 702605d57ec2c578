-- A text that has lexemes begins with the bytes of the first one, behind blanks.
use Rattle.std.proofs.Common.{◌≡◌, ℕ, ◌+◌, ◌-◌, ◌<◌, ◌≤◌, ℤ, Bool, true, false, ◌||◌, nat_lt, nat_eq, List, [], ◌∷◌, ◌++◌, length, take, drop, get_or, map, Option, Some, None, Result, Ok, Err, refl, sym, ap, subst, ◌∙◌, arith, append_assoc, length-append, length-take, take-append-drop}
use Rattle.std.specs.Prelude.{find, if◌then◌else◌}
use Rattle.std.specs.Char.{is_ascii_digit}
use Rattle.std.specs.Cmp.Lexicographic.{same_text}
use Rattle.std.specs.List.{list_all, starts_with}
use Rattle.std.specs.Option.{option_map}
use Rattle.std.proofs.lemmas.Bool.{and_from, false≢true, ltb-true}
use Rattle.fc_base.specs.Places.{Place, address_of}
use Rattle.fc_base.specs.Texts.{is_name, is_text_value}
use Rattle.fc_base.proofs.AddressLemmas.{address_of-iff}
use Rattle.fc_base.proofs.NameLemmas.{is_name-length}
use Rattle.quantities.specs.Decimals.{is_decimal, decimal_value}
use Rattle.quantities.specs.declared.decimal_fault.DecimalFault.{DecimalFault}
use Rattle.object_paths.specs.PathParts.{is_blank, until_closing, opened}
use Rattle.expr_tokens.specs.declared.sign.Sign as s
use Rattle.expr_tokens.specs.declared.sign.Sign.TheVariants as sign
use Rattle.expr_tokens.specs.declared.token.Lexeme.{Lexeme}
use Rattle.expr_tokens.specs.declared.token.Lexeme.TheVariants.{Numeral, Identifier, Marked, Text, Sign}
use Rattle.expr_tokens.specs.declared.token.Placed.{Placed}
use Rattle.expr_tokens.specs.Kinds.{is_dot}
use Rattle.expr_tokens.specs.Lexemes.{numeral_of, spells_word, has_mark, is_marked_address, identifier_of, marked_of, of_length, numeral_at, word_at, quoted, mark_or_word, lexeme_at, in_front, with_lexeme, lexed_from}
use Rattle.expr_tokens.specs.Longest.{longest}
use Rattle.expr_tokens.specs.Signs.{sign_at, sign_text, signs}
use Rattle.expr_tokens.proofs.AsciiNames.{dollar_spelled}
use Rattle.expr_tokens.proofs.LongestFronts.{longest-le, longest-passes}
use Rattle.expr_grammar.proofs.PathFrontLemmas.{AllSome, on_cond}
use Rattle.expression_laws.proofs.PartLemmas.{AreBlanks}
use Rattle.expression_laws.proofs.PathLexemes.{opened-found, closing-found}

-- ---- the bytes of a lexeme

-- what a lexeme says of its bytes
abbrev pub Spells : Lexeme → List ℕ → Type 0
Spells (Numeral amount number) w = Unit {0}
Spells (Identifier v) w = (v ≡ w) × (is_name w ≡ true)
Spells (Marked p) w = (address_of w ≡ Some p) × (is_marked_address w ≡ true)
Spells (Text t) w = w ≡ 60 ∷ 60 ∷ (t ++ 62 ∷ 62 ∷ [])
Spells (Sign x) w = w ≡ sign_text x

-- the text begins with a lexeme of so many bytes
record IsFront (text : List ℕ) (x : Lexeme) (n : ℕ) : Type 0 where
  word : List ℕ
  rest : List ℕ
  whole : text ≡ word ++ rest
  size : n ≡ length word
  spells : Spells x word

abbrev IsFound : List ℕ → Option (Lexeme × ℕ) → Type 0
IsFound text None = Unit {0}
IsFound text (Some x) = IsFront text x.0 x.1

taken : (text : List ℕ) (n : ℕ) (x : Lexeme) → n ≤ length text → Spells x (take n text) → IsFront text x n
taken text n x within h = record { word = take n text; rest = drop n text; whole = sym (take-append-drop n text); size = omega (arith, length-take n text); spells = h }

identifier_found : (text : List ℕ) (n : ℕ) → n ≤ length text → IsFound text (of_length n (identifier_of (take n text)))
identifier_found text n within =
    on_cond (λ o. IsFound text (of_length n o)) (is_name (take n text)) (Some (Identifier (take n text))) None
    (λ name. taken text n (Identifier (take n text)) within (refl, name)) (λ _. tt)

marked_found : (text : List ℕ) (n : ℕ) → n ≤ length text → is_marked_address (take n text) ≡ true → IsFound text (of_length n (marked_of (take n text)))
marked_found text n within mark =
    elim (address_of (take n text)) as (λ o. address_of (take n text) ≡ o → IsFound text (of_length n (option_map Marked o)))
    [ None ↦ λ e. tt | Some p ↦ λ e. taken text n (Marked p) within (e, mark) ] refl

word_found : (text : List ℕ) → IsFound text (word_at text)
unfolding word_at
word_found text =
    let word : ℕ = longest spells_word text in
    let address : ℕ = longest is_marked_address text in
    on_cond (IsFound text) (nat_lt word address) (of_length address (marked_of (take address text))) (of_length word (identifier_of (take word text)))
    (λ more. let longer : word < address = ltb-true word address more in
    marked_found text address (longest-le is_marked_address text) (longest-passes is_marked_address text (omega arith)))
    (λ _. identifier_found text word (longest-le spells_word text))

numeral_kind : (text : List ℕ) (n : ℕ) (r : Result ℤ DecimalFault) → n ≤ length text → IsFound text (of_length n (numeral_of r (take n text)))
numeral_kind text n (Ok amount) within = taken text n (Numeral amount _) within tt
numeral_kind text n (Err fault) within = tt

numeral_found : (text : List ℕ) → IsFound text (numeral_at text)
unfolding numeral_at
numeral_found text = numeral_kind text (longest is_decimal text) (decimal_value (take (longest is_decimal text) text)) (longest-le is_decimal text)

text_found : (text rest : List ℕ) (cut : Option (List ℕ × List ℕ)) → text ≡ 60 ∷ 60 ∷ rest → AllSome (λ (cut : List ℕ × List ℕ). rest ≡ cut.0 ++ 62 ∷ 62 ∷ cut.1) cut → IsFound text (quoted cut)
text_found text rest None opens h = tt
text_found text rest (Some cut) opens h =
    on_cond (IsFound text) (is_text_value cut.0) (Some (Text cut.0, length cut.0 + 4)) None
    (λ _. record {
      word = 60 ∷ 60 ∷ (cut.0 ++ 62 ∷ 62 ∷ []);
      rest = cut.1;
      whole = opens ∙ ap (λ (u : List ℕ). 60 ∷ 60 ∷ u) (h ∙ sym (append_assoc cut.0 (62 ∷ 62 ∷ []) cut.1));
      size = omega (arith, length-append cut.0 (62 ∷ 62 ∷ []));
      spells = refl;
    })
    (λ _. tt)

find_found : {A : Type 0} (p : A → Bool) (xs : List A) → AllSome (λ x. p x ≡ true) (find p xs)
find_found p [] = tt
find_found p (x ∷ xs) = on_cond (AllSome (λ y. p y ≡ true)) (p x) (Some x) (find p xs) (λ e. e) (λ _. find_found p xs)

sign_found : (text : List ℕ) → AllSome (λ x. starts_with nat_eq text (sign_text x) ≡ true) (sign_at text)
unfolding sign_at
sign_found text = find_found (λ x. starts_with nat_eq text (sign_text x)) signs

kind_found : (text : List ℕ) (o : Option (List ℕ)) (x : Option s.Sign) → AllSome (λ rest. text ≡ 60 ∷ 60 ∷ rest) o → AllSome (λ x. starts_with nat_eq text (sign_text x) ≡ true) x
    → IsFound text (mark_or_word o x text)
kind_found text (Some rest) x h k = text_found text rest (until_closing rest) h (closing-found rest)
kind_found text None (Some x) h k =
    let n : ℕ = length (sign_text x) in
    let same : sign_text x ≡ take n text = same_text (sign_text x) (take n text) (sym k) in
    record { word = sign_text x; rest = drop n text; whole = sym (take-append-drop n text) ∙ ap (λ u. u ++ drop n text) (sym same); size = refl; spells = refl }
kind_found text None None h k = word_found text

lexeme_found : (text : List ℕ) → IsFound text (lexeme_at text)
unfolding lexeme_at
lexeme_found [] = tt
lexeme_found (c ∷ cs) =
    on_cond (IsFound (c ∷ cs)) (is_ascii_digit c) (numeral_at (c ∷ cs)) (mark_or_word (opened (c ∷ cs)) (sign_at (c ∷ cs)) (c ∷ cs))
    (λ _. numeral_found (c ∷ cs)) (λ _. kind_found (c ∷ cs) (opened (c ∷ cs)) (sign_at (c ∷ cs)) (opened-found (c ∷ cs)) (sign_found (c ∷ cs)))

-- ---- the lexemes of a text, one by one

-- a lexeme that a path may have
abbrev pub is_of_path : Lexeme → Bool
is_of_path (Numeral amount number) = false
is_of_path (Identifier w) = true
is_of_path (Marked p) = true
is_of_path (Text t) = true
is_of_path (Sign x) = is_dot x

pub marked_some : (w : List ℕ) (p : Place) → address_of w ≡ Some p → is_marked_address w ≡ true → (i : ℕ) × ((i < length w) × (get_or w i 0 ≡ 36))
marked_some w p e mark =
    let marks : (p.fixed_column || p.fixed_row) ≡ true = sym (ap has_mark e) ∙ mark in
    subst (λ u. (i : ℕ) × ((i < length u) × (get_or u i 0 ≡ 36))) ((address_of-iff w p).0 e).spelling (dollar_spelled p marks)

-- so it has bytes
pub some_bytes : (x : Lexeme) (w : List ℕ) → is_of_path x ≡ true → Spells x w → (d : ℕ) × ((v : List ℕ) × (w ≡ d ∷ v))
some_bytes (Numeral amount number) w fits h = absurd (false≢true fits)
some_bytes (Identifier u) [] fits h = absurd (omega (arith, is_name-length [] h.1))
some_bytes (Identifier u) (d ∷ v) fits h = (d, (v, refl))
some_bytes (Marked p) [] fits h = let found = marked_some [] p h.0 h.1 in absurd (omega (arith, found.1.0))
some_bytes (Marked p) (d ∷ v) fits h = (d, (v, refl))
some_bytes (Text t) w fits h = (60, (60 ∷ (t ++ 62 ∷ 62 ∷ []), h))
some_bytes (Sign sign.Dot) w fits h = (46, ([], h))
some_bytes (Sign x) w fits h = absurd (cc)

-- the text, at some place, is these lexemes
pub record IsLexedAs (text : List ℕ) (ls : List Lexeme) : Type 0 where
  pub place : ℕ
  pub placed : List Placed
  pub lexed : lexed_from 0 place text ≡ Ok placed
  pub lexemes : map (λ (x : Placed). x.lexeme) placed ≡ ls

-- a lexeme in front, behind blanks, and others
pub record Begins (text : List ℕ) (x : Lexeme) (ls : List Lexeme) : Type 0 where
  pub blanks : List ℕ
  pub blank : AreBlanks blanks
  pub word : List ℕ
  pub rest : List ℕ
  pub whole : text ≡ blanks ++ (word ++ rest)
  pub spells : Spells x word
  pub later : IsLexedAs rest ls

skipped : (w rest : List ℕ) (place : ℕ) → lexed_from (length w) place (w ++ rest) ≡ lexed_from 0 (place + length w) rest
unfolding lexed_from
skipped [] rest place = ap (λ n. lexed_from 0 n rest) (omega arith)
skipped (c ∷ w) rest place = skipped w rest (place + 1) ∙ ap (λ n. lexed_from 0 n rest) (omega arith)

first_of : (c : ℕ) (cs : List ℕ) (place n : ℕ) (y x : Lexeme) (ys placed : List Placed) (ls : List Lexeme) → is_of_path x ≡ true → IsFront (c ∷ cs) y n
    → lexed_from (n - 1) (place + 1) cs ≡ Ok ys → (record { place = place; lexeme = y }) ∷ ys ≡ placed → map (λ (z : Placed). z.lexeme) placed ≡ x ∷ ls → Begins (c ∷ cs) x ls
first_of c cs place n y x ys placed ls fits found read all told =
    let names : y ∷ map (λ (z : Placed). z.lexeme) ys ≡ x ∷ ls = ap (map (λ (z : Placed). z.lexeme)) all ∙ told in
    let first : y ≡ x = cc in
    let more : map (λ (z : Placed). z.lexeme) ys ≡ ls = cc in
    let spells : Spells x found.word = subst (λ z. Spells z found.word) first found.spells in
    let bytes = some_bytes x found.word fits spells in
    let v : List ℕ = bytes.1.0 in
    let split : c ∷ cs ≡ bytes.0 ∷ (v ++ found.rest) = found.whole ∙ ap (λ u. u ++ found.rest) bytes.1.1 in
    let tail : cs ≡ v ++ found.rest = cc in
    let size : n - 1 ≡ length v = omega (arith, found.size, ap length bytes.1.1) in
    record {
      blanks = [];
      blank = refl;
      word = found.word;
      rest = found.rest;
      whole = found.whole;
      spells = spells;
      later = record {
        place = place + 1 + length v;
        placed = ys;
        lexed = sym (skipped v found.rest (place + 1)) ∙ (λ i. lexed_from (sym size i) (place + 1) (sym tail i)) ∙ read;
        lexemes = more;
      };
    }

one_lexeme : (c : ℕ) (cs : List ℕ) (place : ℕ) (x : Lexeme) (placed : List Placed) (ls : List Lexeme) (o : Option (Lexeme × ℕ)) → is_of_path x ≡ true → IsFound (c ∷ cs) o
    → with_lexeme o place (λ n. lexed_from (n - 1) (place + 1) cs) ≡ Ok placed → map (λ (z : Placed). z.lexeme) placed ≡ x ∷ ls → Begins (c ∷ cs) x ls
one_lexeme c cs place x placed ls None fits found e told = absurd (cc)
one_lexeme c cs place x placed ls (Some y) fits found e told = read (lexed_from (y.1 - 1) (place + 1) cs) refl e
  where
    read : (r : Result (List Placed) ℕ) → lexed_from (y.1 - 1) (place + 1) cs ≡ r → in_front (record { place = place; lexeme = y.0 }) r ≡ Ok placed → Begins (c ∷ cs) x ls
    read (Err p) is h = absurd (cc)
    read (Ok ys) is h = let all : (record { place = place; lexeme = y.0 }) ∷ ys ≡ placed = cc in first_of c cs place y.1 y.0 x ys placed ls fits found is all told

begins_from : (text : List ℕ) (place : ℕ) (placed : List Placed) (x : Lexeme) (ls : List Lexeme) → is_of_path x ≡ true → lexed_from 0 place text ≡ Ok placed
    → map (λ (z : Placed). z.lexeme) placed ≡ x ∷ ls → Begins text x ls
unfolding lexed_from
begins_from [] place placed x ls fits e told =
    let none : [] ≡ placed = cc in
    let bad : [] ≡ x ∷ ls = ap (map (λ (z : Placed). z.lexeme)) none ∙ told in
    absurd (cc)
begins_from (c ∷ cs) place placed x ls fits e told =
    elim (is_blank c) as (λ b. is_blank c ≡ b → (if b then lexed_from 0 (place + 1) cs else with_lexeme (lexeme_at (c ∷ cs)) place (λ n. lexed_from (n - 1) (place + 1) cs)) ≡ Ok placed → Begins (c ∷ cs) x ls) [
      | true ↦ λ blank h. further blank (begins_from cs (place + 1) placed x ls fits h told)
      | false ↦ λ _ h. one_lexeme c cs place x placed ls (lexeme_at (c ∷ cs)) fits (lexeme_found (c ∷ cs)) h told
    ] refl e
  where
    further : is_blank c ≡ true → Begins cs x ls → Begins (c ∷ cs) x ls
    further blank b = record {
      blanks = c ∷ b.blanks;
      blank = and_from (is_blank c) (list_all is_blank b.blanks) blank b.blank;
      word = b.word;
      rest = b.rest;
      whole = ap (λ (u : List ℕ). c ∷ u) b.whole;
      spells = b.spells;
      later = b.later;
    }

pub begins : {text : List ℕ} {ls : List Lexeme} (x : Lexeme) → is_of_path x ≡ true → IsLexedAs text (x ∷ ls) → Begins text x ls
begins {text} {ls} x fits h = begins_from text h.place h.placed x ls fits h.lexed h.lexemes

pub blanks_from : (text : List ℕ) (place : ℕ) (placed : List Placed) → lexed_from 0 place text ≡ Ok placed → map (λ (z : Placed). z.lexeme) placed ≡ [] → AreBlanks text
unfolding lexed_from
blanks_from [] place placed e none = refl
blanks_from (c ∷ cs) place placed e none =
    elim (is_blank c) as (λ b. is_blank c ≡ b → (if b then lexed_from 0 (place + 1) cs else with_lexeme (lexeme_at (c ∷ cs)) place (λ n. lexed_from (n - 1) (place + 1) cs)) ≡ Ok placed → AreBlanks (c ∷ cs)) [
      | true ↦ λ blank h. and_from (is_blank c) (list_all is_blank cs) blank (blanks_from cs (place + 1) placed h none)
      | false ↦ λ _ h. absurd (no_lexeme (lexeme_at (c ∷ cs)) h)
    ] refl e
  where
    no_more : (y : Placed) (r : Result (List Placed) ℕ) → in_front y r ≡ Ok placed → ⊥
    no_more y (Err p) h = absurd (cc)
    no_more y (Ok ys) h =
        let all : y ∷ ys ≡ placed = cc in
        let bad : y.lexeme ∷ map (λ (z : Placed). z.lexeme) ys ≡ [] = ap (map (λ (z : Placed). z.lexeme)) all ∙ none in
        absurd (cc)

    no_lexeme : (o : Option (Lexeme × ℕ)) → with_lexeme o place (λ n. lexed_from (n - 1) (place + 1) cs) ≡ Ok placed → ⊥
    no_lexeme None h = absurd (cc)
    no_lexeme (Some y) h = no_more (record { place = place; lexeme = y.0 }) (lexed_from (y.1 - 1) (place + 1) cs) h
