-- A printed tree is read back.
use Rattle.std.proofs.Common.{◌≡◌, ℕ, false, List, [], ◌++◌, Result, Ok, refl, sym, ap, subst, ◌∙◌, append-nil}
use Rattle.object_paths.specs.PathTexts.{path_text}
use Rattle.expr_tree.specs.declared.operators.BinaryOp.{BinaryOp}
use Rattle.expr_tree.specs.declared.operators.BinaryOp.TheVariants.{Plus, Minus, Times, Over, Modulo}
use Rattle.expr_tree.specs.declared.operators.CompareOp.{CompareOp}
use Rattle.expr_tree.specs.declared.operators.CompareOp.TheVariants.{Equal, NotEqual, Less, LessOrEqual, Greater, GreaterOrEqual}
use Rattle.expr_tree.specs.declared.functions.FunctionOp.{FunctionOp}
use Rattle.expr_tree.specs.declared.functions.FunctionOp.TheVariants.{Abs, Ceil, Floor, Round, Trunc}
use Rattle.expr_tree.specs.declared.functions.AggregateOp.{AggregateOp}
use Rattle.expr_tree.specs.declared.functions.AggregateOp.TheVariants.{Sum, Average, Count, Min, Max}
use Rattle.expr_tokens.specs.declared.sign.Sign.TheVariants as sign
use Rattle.expr_tokens.specs.declared.token.Placed.{Placed}
use Rattle.expr_tokens.specs.declared.token.Token.{Token}
use Rattle.expr_tree.specs.Functions.{function_name, modulo_name, aggregate_name}
use Rattle.expr_grammar.specs.Grammar.{unary, comparison, sum, expression, binary_level, right_level, binary_sign, compare_sign, HasTree}
use Rattle.expr_tokens.specs.Kinds.{is_open, is_dot, kinds, tokens_of}
use Rattle.expr_tokens.specs.Lexemes.{lexed}
use Rattle.expr_grammar.specs.Parse.{IsLexed, Parses}
use Rattle.expr_grammar.specs.Printed.{fits, fits_as_base, call_text, separator_text, printed, printed_arguments}
use Rattle.expr_tree.specs.Spelled.{IsSpelled, AreSpelled}
use Rattle.expr_tree.specs.Tree.{Tree, literal, unit_one, flag, text, path, negate, binary, power, compare, conditional, function, modulo, aggregate, Arguments, no_more, tree, cells}
use Rattle.expr_grammar.specs.TreeTokens.{call_tokens, separator_tokens, tree_tokens, argument_tokens}
use Rattle.expr_tokens.proofs.AsciiNames.{ascii_name}
use Rattle.expr_tokens.proofs.LexemeLemmas.{finished, placed_from}
use Rattle.expr_grammar.proofs.PrintedLemmas.{unit_reads, flag_reads, literal_reads, quoted_reads, path_reads, area_reads, behind_caret}
use Rattle.expr_grammar.proofs.ReadingLemmas.{Readable, Behind, followed, nothing, behind_sign, behind_semicolon, negated, in_place, called}
use Rattle.expr_grammar.proofs.TokenLemmas.{spelled_arguments, has_tree, as_expression}

-- the signs of the operations are neither `(` nor `.`
binary_plain : (op : BinaryOp) → (is_open (binary_sign op) ≡ false) × (is_dot (binary_sign op) ≡ false)
binary_plain Plus = (refl, refl)
binary_plain Minus = (refl, refl)
binary_plain Times = (refl, refl)
binary_plain Over = (refl, refl)
binary_plain Modulo = (refl, refl)

compare_plain : (op : CompareOp) → (is_open (compare_sign op) ≡ false) × (is_dot (compare_sign op) ≡ false)
compare_plain Equal = (refl, refl)
compare_plain NotEqual = (refl, refl)
compare_plain Less = (refl, refl)
compare_plain LessOrEqual = (refl, refl)
compare_plain Greater = (refl, refl)
compare_plain GreaterOrEqual = (refl, refl)

function_called : (op : FunctionOp) {w : List ℕ} {ts : List Token} → Readable w ts → Readable (call_text (function_name op) w) (call_tokens (function_name op) ts)
function_called Abs a = called (function_name Abs) (ascii_name (function_name Abs) refl) a
function_called Ceil a = called (function_name Ceil) (ascii_name (function_name Ceil) refl) a
function_called Floor a = called (function_name Floor) (ascii_name (function_name Floor) refl) a
function_called Round a = called (function_name Round) (ascii_name (function_name Round) refl) a
function_called Trunc a = called (function_name Trunc) (ascii_name (function_name Trunc) refl) a

aggregate_called : (op : AggregateOp) {w : List ℕ} {ts : List Token} → Readable w ts → Readable (call_text (aggregate_name op) w) (call_tokens (aggregate_name op) ts)
aggregate_called Sum a = called (aggregate_name Sum) (ascii_name (aggregate_name Sum) refl) a
aggregate_called Average a = called (aggregate_name Average) (ascii_name (aggregate_name Average) refl) a
aggregate_called Count a = called (aggregate_name Count) (ascii_name (aggregate_name Count) refl) a
aggregate_called Min a = called (aggregate_name Min) (ascii_name (aggregate_name Min) refl) a
aggregate_called Max a = called (aggregate_name Max) (ascii_name (aggregate_name Max) refl) a

-- further arguments, where there are some
others : (more : Arguments) → Readable (printed_arguments more) (argument_tokens more)
    → Behind (separator_text more ++ printed_arguments more) (separator_tokens more ++ argument_tokens more)
unfolding printed printed_arguments
others no_more a = nothing
others (tree t more) a = behind_semicolon a
others (cells area more) a = behind_semicolon a

mutual
  unfolding printed printed_arguments path_text

  -- the printed form of a tree reads as the tokens of the tree
  pub printed_reads : (t : Tree) → IsSpelled t → Readable (printed t) (tree_tokens t)
  printed_reads (literal x u) h = literal_reads x u h.0 h.1
  printed_reads (unit_one name) h = unit_reads name h
  printed_reads (flag b) h = flag_reads b
  printed_reads (text t) h = quoted_reads t h
  printed_reads (path p) h = path_reads p.owner p.slot h.owner h.slot
  printed_reads (negate a) h = negated (in_place (fits unary a) (printed_reads a h))
  printed_reads (binary op a b) h =
      followed (in_place (fits (binary_level op) a) (printed_reads a h.0))
      (behind_sign (binary_sign op) (binary_plain op).0 (binary_plain op).1 (in_place (fits (right_level op) b) (printed_reads b h.1)))
  printed_reads (power a n) h = followed (in_place (fits_as_base a) (printed_reads a h.0)) (behind_caret n h.1)
  printed_reads (compare op a b) h =
      followed (in_place (fits sum a) (printed_reads a h.0))
      (behind_sign (compare_sign op) (compare_plain op).0 (compare_plain op).1 (in_place (fits sum b) (printed_reads b h.1)))
  printed_reads (conditional c a b) h =
      followed (in_place (fits comparison c) (printed_reads c h.0))
      (behind_sign sign.Question refl refl (followed (printed_reads a h.1) (behind_sign sign.Colon refl refl (printed_reads b h.2))))
  printed_reads (function op a) h = function_called op (printed_reads a h)
  printed_reads (modulo a b) h =
      called modulo_name (ascii_name modulo_name refl) (followed (printed_reads a h.0) (behind_semicolon (printed_reads b h.1)))
  printed_reads (aggregate op all) h = aggregate_called op (arguments_read all (spelled_arguments op all h).1)

  arguments_read : (all : Arguments) → AreSpelled all → Readable (printed_arguments all) (argument_tokens all)
  arguments_read no_more h = (nothing.0, nothing.1.reads)
  arguments_read (tree t more) h = followed (printed_reads t h.0) (others more (arguments_read more h.1))
  arguments_read (cells area more) h = followed (area_reads area h.0) (others more (arguments_read more h.1))

-- the printed form has lexemes, and these are the tokens of the tree
pub printed_has_tokens : (t : Tree) → IsSpelled t → (xs : List Placed) × ((lexed (printed t) ≡ Ok xs) × (tokens_of xs ≡ tree_tokens t))
printed_has_tokens t h =
    let read = printed_reads t h in
    let found = placed_from (read.1.lexemes [] [] refl finished) 0 in (
      found.placed,
      (
        ap lexed (sym (append-nil (printed t))) ∙ found.lexed,
        ap (kinds false) found.lexemes ∙ read.1.tokens [] refl ∙ append-nil (tree_tokens t),
      ),
    )

-- so these have the tree
pub printed_is_tree : (t : Tree) → IsSpelled t → (xs : List Placed) × ((lexed (printed t) ≡ Ok xs) × HasTree expression (tokens_of xs) t)
printed_is_tree t h =
    let found = printed_has_tokens t h in
    (found.0, (found.1.0, subst (λ ts. HasTree expression ts t) (sym found.1.1) (as_expression t (has_tree t h))))

-- so within the limits it is an expression with that tree
pub printed_is_read : (t : Tree) → IsSpelled t → (xs : List Placed) → IsLexed (printed t) xs → Parses (printed t) t
printed_is_read t h xs within =
    let found = printed_is_tree t h in
    let same : ◌≡◌ {A = Result (List Placed) ℕ} (Ok found.0) (Ok xs) = sym found.1.0 ∙ within.lexemes in
    let listed : found.0 ≡ xs = cc in
    record { lexemes = xs; spelled = within; tree = subst (λ ys. HasTree expression (tokens_of ys) t) listed found.1.1 }
