-- A path as an expression has the path's tokens, or stands in brackets.
use Rattle.std.proofs.Common.{◌≡◌, ◌⊎◌, inl, inr, ℕ, ◌+◌, ◌≤◌, Bool, true, false, ◌||◌, nat_le, nat_lt, List, [], ◌∷◌, ◌++◌, length, map, Some, None, refl, sym, ap, subst, ◌∙◌, ⊎_elim, arith}
use Rattle.std.specs.List.{list_any}
use Rattle.std.proofs.lemmas.Bool.{or_parts, or_from, both_ways, cond-false, false_from_ne_true, leb-true, ltb-true}
use Rattle.std.proofs.lemmas.List.{length-map}
use Rattle.object_paths.specs.declared.slot_name.Component.TheVariants.{X, Y, Z, Turn}
use Rattle.object_paths.specs.declared.slot_name.SlotName.{SlotName}
use Rattle.object_paths.specs.declared.slot_name.SlotName.TheVariants as slot
use Rattle.object_paths.specs.declared.path.Owner.{Owner}
use Rattle.object_paths.specs.declared.path.Owner.TheVariants.{Here, ByName, ByLabel}
use Rattle.object_paths.specs.declared.path.Path.{Path}
use Rattle.expr_tree.specs.Tree.{Tree, path}
use Rattle.expr_tokens.specs.declared.sign.Sign.TheVariants as sign
use Rattle.expr_tokens.specs.declared.token.Lexeme.{Lexeme}
use Rattle.expr_tokens.specs.declared.token.Lexeme.TheVariants.{Numeral, Identifier, Marked, Text, Sign}
use Rattle.expr_tokens.specs.declared.token.Placed.{Placed}
use Rattle.expr_tokens.specs.declared.token.Token.{Token}
use Rattle.expr_tokens.specs.Kinds.{is_opening_bracket, bracket_follows, kinds}
use Rattle.expr_tokens.specs.Lexemes.{lexed}
use Rattle.expr_tokens.specs.Limits.{most_tokens, most_brackets, open_behind, excess_from}
use Rattle.expr_grammar.specs.Grammar.{Level, HasTree, a_comparison, a_sum, a_term, a_unary, a_power, a_primary, a_conditional, a_compare, a_binary, a_negate, a_raised, a_numeral, a_measure, a_unit, a_flag, a_text, a_path, in_brackets, a_function, a_modulo, an_aggregate}
use Rattle.expr_grammar.specs.Parse.{Parses}
use Rattle.expr_grammar.specs.PathTokens.{slot_tokens, owner_tokens, IsPathOf, plain, behind_point}
use Rattle.expression_laws.specs.PathsRead as s
use Rattle.expression_laws.specs.PathsRead.{HasPathTokens, PathsHaveTokens, PathsAreExpressions}
use Rattle.expression_laws.proofs.PathLexemes.{path_has_tokens}
use Rattle.expression_laws.proofs.PathReading.{lexeme_of, kind_back, kinds_back, tokens_are_read}

-- ---- limits

-- few lexemes, of which none opens a bracket
record IsShort (most : ℕ) (ls : List Lexeme) : Type 0 where
  few : length ls ≤ most
  closed : list_any is_opening_bracket ls ≡ false

slot_short : (s : SlotName) → IsShort 5 (map lexeme_of (slot_tokens s))
slot_short (slot.Plain name) = record { few = omega arith; closed = refl }
slot_short (slot.Component name X) = record { few = omega arith; closed = refl }
slot_short (slot.Component name Y) = record { few = omega arith; closed = refl }
slot_short (slot.Component name Z) = record { few = omega arith; closed = refl }
slot_short (slot.Component name Turn) = record { few = omega arith; closed = refl }
slot_short (slot.Marked p) = record { few = omega arith; closed = refl }

owned_short : (o : Owner) (s : SlotName) → IsShort 7 (map lexeme_of (owner_tokens o ++ slot_tokens s))
owned_short Here s = let short = slot_short s in record { few = omega (arith, short.few); closed = short.closed }
owned_short (ByName name) s = let short = slot_short s in record { few = omega (arith, short.few); closed = short.closed }
owned_short (ByLabel label) s = let short = slot_short s in record { few = omega (arith, short.few); closed = short.closed }

path_short : {ts : List Token} {p : Path} → IsPathOf ts p → IsShort 7 (map lexeme_of ts)
path_short (plain p own) = owned_short p.owner p.slot
path_short (behind_point s) = let short = slot_short s in record { few = omega (arith, short.few); closed = short.closed }

open_behind-le : (brackets : ℕ) (x : Lexeme) → is_opening_bracket x ≡ false → open_behind brackets x ≤ brackets
open_behind-le brackets (Numeral amount number) h = omega arith
open_behind-le brackets (Identifier w) h = omega arith
open_behind-le brackets (Marked p) h = omega arith
open_behind-le brackets (Text t) h = omega arith
open_behind-le brackets (Sign sign.Open) h = absurd (cc)
open_behind-le brackets (Sign x) h = omega arith

no_excess : (xs : List Placed) (count brackets : ℕ) → list_any is_opening_bracket (map (λ (x : Placed). x.lexeme) xs) ≡ false → count + length xs ≤ 512 → brackets ≤ 32 → excess_from count brackets xs ≡ None
unfolding excess_from
no_excess [] count brackets closed few low = refl
no_excess (x ∷ xs) count brackets closed few low =
    let parts = or_parts (is_opening_bracket x.lexeme) (list_any is_opening_bracket (map (λ (y : Placed). y.lexeme) xs)) closed in
    let now : ℕ = open_behind brackets x.lexeme in
    let less : now ≤ brackets = open_behind-le brackets x.lexeme parts.0 in
    cond-false (nat_le most_tokens count || nat_lt most_brackets now) (Some x.place) (excess_from (count + 1) now xs)
    (or_from (nat_le most_tokens count) (nat_lt most_brackets now)
    (false_from_ne_true _ (λ e. omega (arith, leb-true 512 count e)))
    (false_from_ne_true _ (λ e. omega (arith, ltb-true 32 now e))))
    ∙ no_excess xs (count + 1) now parts.1 (omega arith) (omega arith)

short_lexemes : {text : List ℕ} {p : Path} (h : HasPathTokens text p) → IsShort 7 (map (λ (x : Placed). x.lexeme) h.lexemes)
short_lexemes h = subst (IsShort 7) (kinds_back false (map (λ (x : Placed). x.lexeme) h.lexemes)) (path_short h.path)

-- a path is an expression, whatever the limits
parses : (text : List ℕ) (p : Path) → HasPathTokens text p → Parses text (path p)
parses text p h =
    let short = short_lexemes h in
    let few : length h.lexemes ≤ 7 = omega (arith, short.few, length-map h.lexemes (λ (x : Placed). x.lexeme)) in
    record {
      lexemes = h.lexemes;
      spelled = record { lexemes = h.spelled; within = no_excess h.lexemes 0 0 short.closed (omega arith) (omega arith) };
      tree = a_comparison (a_sum (a_term (a_unary (a_power (a_primary (a_path h.path))))));
    }

no_bracket : (ls : List Lexeme) → list_any is_opening_bracket ls ≡ false → bracket_follows ls ≡ false
no_bracket [] h = refl
no_bracket (x ∷ xs) h = (or_parts (is_opening_bracket x) (list_any is_opening_bracket xs) h).0

-- ---- trees

-- the first token is `(`
abbrev opens : List Token → Bool
opens [] = false
opens (x ∷ xs) = is_opening_bracket (lexeme_of x)

-- of a path, the tokens are its own or begin with a bracket
abbrev IsPathOrOpens : Tree → List Token → Type 0
IsPathOrOpens (path p) ts = IsPathOf ts p ⊎ (opens ts ≡ true)
IsPathOrOpens _ ts = Unit {0}

opened : (t : Tree) (ts : List Token) → opens ts ≡ true → IsPathOrOpens t ts
opened (path p) ts h = inr h
opened _ ts h = tt

path_or_opens : {l : Level} {ts : List Token} {t : Tree} → HasTree l ts t → IsPathOrOpens t ts
path_or_opens (a_comparison h) = path_or_opens h
path_or_opens (a_sum h) = path_or_opens h
path_or_opens (a_term h) = path_or_opens h
path_or_opens (a_unary h) = path_or_opens h
path_or_opens (a_power h) = path_or_opens h
path_or_opens (a_primary h) = path_or_opens h
path_or_opens (a_conditional h k m) = tt
path_or_opens (a_compare op h k) = tt
path_or_opens (a_binary op h k) = tt
path_or_opens (a_negate h) = tt
path_or_opens (a_raised h none k) = tt
path_or_opens (a_numeral amount number) = tt
path_or_opens (a_measure amount number h) = tt
path_or_opens (a_unit name) = tt
path_or_opens (a_flag b) = tt
path_or_opens (a_text t) = tt
path_or_opens (a_path h) = inl h
path_or_opens (in_brackets {ts} {t} h) = opened t _ refl
path_or_opens (a_function op h) = tt
path_or_opens (a_modulo between separates h k) = tt
path_or_opens (an_aggregate op h) = tt

opens-bracket : (ls : List Lexeme) → opens (kinds false ls) ≡ bracket_follows ls
opens-bracket [] = refl
opens-bracket (x ∷ xs) = ap is_opening_bracket (kind_back false x xs)

of_tree : (text : List ℕ) (p : Path) → Parses text (path p) → s.in_brackets (lexed text) ≡ false → HasPathTokens text p
of_tree text p h bare = ⊎_elim
    (λ tokens. record { lexemes = h.lexemes; spelled = h.spelled.lexemes; path = tokens })
    (λ opening. absurd (both_ways (bracket_follows (map (λ (x : Placed). x.lexeme) h.lexemes))
    (sym (ap s.in_brackets h.spelled.lexemes) ∙ bare) (sym (opens-bracket (map (λ (x : Placed). x.lexeme) h.lexemes)) ∙ opening)))
    (path_or_opens h.tree)

-- ---- both ways

pub paths_have_tokens : PathsHaveTokens
paths_have_tokens text p = (path_has_tokens text p, tokens_are_read text p)

pub paths_are_expressions : PathsAreExpressions
paths_are_expressions text p = (
  λ e. let tokens = path_has_tokens text p e in
      (parses text p tokens, ap s.in_brackets tokens.spelled ∙ no_bracket (map (λ (x : Placed). x.lexeme) tokens.lexemes) (short_lexemes tokens).closed),
  λ both. tokens_are_read text p (of_tree text p both.0 both.1),
)
