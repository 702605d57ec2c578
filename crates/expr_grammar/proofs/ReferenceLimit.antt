-- A tree has no more references than its list of tokens is long, so that of a text has at most 512.
use Rattle.std.proofs.Common.{◌≡◌, ℕ, ◌-◌, ◌+◌, ◌≤◌, Bool, false, List, [], ◌∷◌, ◌++◌, length, map, nat_le, Some, None, refl, ◌∙◌, length-append, ◌||◌, nat_lt, arith}
use Rattle.std.proofs.lemmas.Bool.{cond_both, leb-false, or_parts}
use Rattle.std.proofs.lemmas.List.{length-map}
use Rattle.std.specs.Prelude.{IfOk, Result, Ok, Err}
use Rattle.object_paths.specs.declared.slot_name.SlotName.{SlotName}
use Rattle.object_paths.specs.declared.slot_name.SlotName.TheVariants as slot
use Rattle.object_paths.specs.declared.path.Path.{Path}
use Rattle.expr_grammar.specs.declared.fault.ParseFault.{ParseFault}
use Rattle.expr_grammar.specs.declared.fault.ParseFault.TheVariants as fault
use Rattle.expr_tokens.specs.declared.sign.Sign.TheVariants as sign
use Rattle.expr_tokens.specs.declared.token.Lexeme.{Lexeme}
use Rattle.expr_tokens.specs.declared.token.Placed.{Placed}
use Rattle.expr_tokens.specs.declared.token.Token.{Token}
use Rattle.expr_tokens.specs.declared.token.Token.TheVariants as token
use Rattle.expr_grammar.specs.Grammar.{Level, binary_sign, compare_sign, HasTree, a_comparison, a_sum, a_term, a_unary, a_power, a_primary, a_conditional, a_compare, a_binary, a_negate, a_raised, a_numeral, a_measure, a_unit, a_flag, a_text, a_path, in_brackets, a_function, a_modulo, an_aggregate, HasArguments, one_tree, more_trees, one_area, more_areas}
use Rattle.expr_tokens.specs.Kinds.{is_point, kinds, tokens_of}
use Rattle.expr_tokens.specs.Limits.{excess_from, open_behind, most_tokens, most_brackets}
use Rattle.expr_grammar.specs.Parse.{Parses, MeetsParse}
use Rattle.expr_grammar.specs.PathTokens as p
use Rattle.expr_grammar.specs.PathTokens.{slot_tokens, owner_tokens, IsPathOf, behind_point}
use Rattle.expr_tree.specs.References.{reference_count, argument_reference_count}
use Rattle.expr_tree.specs.Tree.{Tree, Arguments}

-- a path has a token
slot_some : (name : SlotName) → 1 ≤ length (slot_tokens name)
slot_some (slot.Plain name) = omega arith
slot_some (slot.Component name part) = omega arith
slot_some (slot.Marked place) = omega arith

path_some : {ts : List Token} {q : Path} → IsPathOf ts q → 1 ≤ length ts
path_some (p.plain q k) = omega (arith, length-append (owner_tokens q.owner) (slot_tokens q.slot), slot_some q.slot)
path_some (behind_point name) = omega (arith, slot_some name)

mutual
  references_within : {l : Level} {ts : List Token} {t : Tree} → HasTree l ts t → reference_count t ≤ length ts
  references_within (a_comparison h) = references_within h
  references_within (a_sum h) = references_within h
  references_within (a_term h) = references_within h
  references_within (a_unary h) = references_within h
  references_within (a_power h) = references_within h
  references_within (a_primary h) = references_within h
  references_within (a_conditional {xs} {ys} {zs} c a b) =
      omega (arith, length-append xs (token.Sign sign.Question ∷ (ys ++ token.Sign sign.Colon ∷ zs)), length-append ys (token.Sign sign.Colon ∷ zs), references_within c, references_within a, references_within b)
  references_within (a_compare op {xs} {ys} a b) =
      omega (arith, length-append xs (token.Sign (compare_sign op) ∷ ys), references_within a, references_within b)
  references_within (a_binary op {xs} {ys} a b) =
      omega (arith, length-append xs (token.Sign (binary_sign op) ∷ ys), references_within a, references_within b)
  references_within (a_negate h) = omega (arith, references_within h)
  references_within (a_raised {ts} {ns} h none e) = omega (arith, length-append ts (token.Sign sign.Caret ∷ ns), references_within h)
  references_within (a_numeral x number) = omega arith
  references_within (a_measure x number u) = omega arith
  references_within (a_unit name) = omega arith
  references_within (a_flag b) = omega arith
  references_within (a_text t) = omega arith
  references_within (a_path h) = path_some h
  references_within (in_brackets {ts} h) = omega (arith, length-append ts (token.Sign sign.Close ∷ []), references_within h)
  references_within (a_function op {ts} h) = omega (arith, length-append ts (token.Sign sign.Close ∷ []), references_within h)
  references_within (a_modulo between is {xs} {ys} a b) =
      omega (arith, length-append xs (token.Sign between ∷ (ys ++ token.Sign sign.Close ∷ [])), length-append ys (token.Sign sign.Close ∷ []), references_within a, references_within b)
  references_within (an_aggregate op {ts} {all} h) = omega (arith, length-append ts (token.Sign sign.Close ∷ []), argument_references_within h)

  argument_references_within : {ts : List Token} {all : Arguments} → HasArguments ts all → argument_reference_count all ≤ length ts
  argument_references_within (one_tree h) = omega (arith, references_within h)
  argument_references_within (more_trees between is {ts} {us} h more) =
      omega (arith, length-append ts (token.Sign between ∷ us), references_within h, argument_references_within more)
  argument_references_within (one_area area x y b) = omega arith
  argument_references_within (more_areas between is area x y b more) = omega (arith, argument_references_within more)

-- there are as many tokens as lexemes
length-kinds : (behind : Bool) (xs : List Lexeme) → length (kinds behind xs) ≡ length xs
length-kinds behind [] = refl
length-kinds behind (x ∷ xs) = omega (arith, length-kinds (is_point x) xs)

pub length-tokens_of : (xs : List Placed) → length (tokens_of xs) ≡ length xs
length-tokens_of xs = length-kinds false (map (λ (x : Placed). x.lexeme) xs) ∙ length-map xs (λ (x : Placed). x.lexeme)

-- lexemes of which none is too many
within_limit : (count brackets : ℕ) (xs : List Placed) → excess_from count brackets xs ≡ None → length xs ≤ 512 - count
unfolding excess_from
within_limit count brackets [] h = omega arith
within_limit count brackets (x ∷ xs) h =
    let now = open_behind brackets x.lexeme in
    cond_both (nat_le most_tokens count || nat_lt most_brackets now) (Some x.place) (excess_from (count + 1) now xs) (λ v. v ≡ None → length (x ∷ xs) ≤ 512 - count)
    (λ e some. absurd (cc))
    (λ e none. omega (arith, leb-false 512 count (or_parts (nat_le most_tokens count) (nat_lt most_brackets now) e).0, within_limit (count + 1) now xs none))
    h

pub parsed_references : (w : List ℕ) (t : Tree) → Parses w t → reference_count t ≤ 512
parsed_references w t h = omega (arith, references_within h.tree, length-tokens_of h.lexemes, within_limit 0 0 h.lexemes h.spelled.within)

-- the tree of an answer has at most so many references
pub answer_references : (w : List ℕ) (r : Result Tree ParseFault) → MeetsParse w r → IfOk r (λ t. reference_count t ≤ 512)
answer_references w (Ok t) h = parsed_references w t h
answer_references w (Err (fault.Expr f)) h = tt
answer_references w (Err (fault.Memory e)) h = tt
