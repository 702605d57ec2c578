-- From the end of the listed numbers on, references are changed alike: as they were.
use Rattle.std.proofs.Common.{◌≡◌, ℕ, ◌+◌, ◌<◌, ◌≤◌, zero, suc, min, List, [], ◌∷◌, ◌++◌, length, get_or, drop, drop-cons, add-one, None, refl, ap, sym, ◌∙◌, inl, inr, arith}
use Rattle.std.proofs.lemmas.Bool.{cases_lt}
use Rattle.std.proofs.lemmas.List.{drop_all}
use Rattle.fc_base.specs.Places.{Block}
use Rattle.object_paths.specs.declared.path.Path.{Path}
use Rattle.expr_tree.specs.declared.expr.Argument.{Argument}
use Rattle.expr_tree.specs.declared.expr.Argument.TheVariants as argument
use Rattle.expr_tree.specs.declared.renaming.NewReference.{NewReference}
use Rattle.expr_tree.specs.Joined.{joined}
use Rattle.expr_tree.specs.NodesAsTrees.{arguments_of}
use Rattle.expr_tree.specs.Nodes.{argument_nodes}
use Rattle.expr_tree.specs.Numbered.{with_numbered, with_numbered_arguments}
use Rattle.expr_tree.specs.References.{reference_count, argument_reference_count}
use Rattle.expr_tree.specs.Renaming.{new_reference, numbers_end, path_or, area_or, renamed_path, renamed_area}
use Rattle.expr_tree.specs.Tree.{Tree, literal, unit_one, flag, text, path, negate, binary, power, compare, conditional, function, modulo, aggregate, Arguments, no_more, tree, cells}
use Rattle.expr_tree.proofs.JoinedLemmas.{joined-append, joined-no_more}

-- the arguments behind the next one have at most the nodes of those from it on
fewer : (i : ℕ) (items : List Argument) → argument_nodes (arguments_of (drop (suc i) items)) ≤ argument_nodes (arguments_of (drop i items))
fewer zero [] = omega arith
fewer (suc i) [] = omega arith
fewer zero (argument.Tree t ∷ xs) = omega arith
fewer zero (argument.Cells a ∷ xs) = omega arith
fewer (suc i) (x ∷ xs) = fewer i xs

pub fewer_nodes : (i : ℕ) (items : List Argument) → argument_nodes (arguments_of (drop (i + 1) items)) ≤ argument_nodes (arguments_of (drop i items))
fewer_nodes i items = rw (add-one) (fewer i items)

-- nothing is listed from the end on
new_reference-end : (pairs : List (ℕ × NewReference)) (k : ℕ) → numbers_end pairs ≤ k → new_reference pairs k ≡ None
new_reference-end [] k h = refl
new_reference-end (x ∷ pairs) k h = grind (arith, new_reference-end pairs k (omega arith))

module _ (pairs : List (ℕ × NewReference)) where
  path-end : (j k : ℕ) (p : Path) → numbers_end pairs ≤ j → numbers_end pairs ≤ k → renamed_path pairs j p ≡ renamed_path pairs k p
  path-end j k p h g = ap (λ new. path_or new p) (new_reference-end pairs j h ∙ sym (new_reference-end pairs k g))

  area-end : (j k : ℕ) (a : Block) → numbers_end pairs ≤ j → numbers_end pairs ≤ k → renamed_area pairs j a ≡ renamed_area pairs k a
  area-end j k a h g = ap (λ new. area_or new a) (new_reference-end pairs j h ∙ sym (new_reference-end pairs k g))

  mutual
    tree-end : (j k : ℕ) (t : Tree) → numbers_end pairs ≤ j → numbers_end pairs ≤ k
        → with_numbered (renamed_path pairs) (renamed_area pairs) j t ≡ with_numbered (renamed_path pairs) (renamed_area pairs) k t
    tree-end j k (literal x u) h g = refl
    tree-end j k (unit_one u) h g = refl
    tree-end j k (flag b) h g = refl
    tree-end j k (text t) h g = refl
    tree-end j k (path p) h g = λ i. path (path-end j k p h g i)
    tree-end j k (negate a) h g = λ i. negate (tree-end j k a h g i)
    tree-end j k (binary op a b) h g = λ i. binary op (tree-end j k a h g i) (tree-end (j + reference_count a) (k + reference_count a) b (omega arith) (omega arith) i)
    tree-end j k (power a n) h g = λ i. power (tree-end j k a h g i) n
    tree-end j k (compare op a b) h g = λ i. compare op (tree-end j k a h g i) (tree-end (j + reference_count a) (k + reference_count a) b (omega arith) (omega arith) i)
    tree-end j k (conditional c a b) h g =
        λ i. conditional (tree-end j k c h g i) (tree-end (j + reference_count c) (k + reference_count c) a (omega arith) (omega arith) i)
        (tree-end (j + reference_count c + reference_count a) (k + reference_count c + reference_count a) b (omega arith) (omega arith) i)
    tree-end j k (function op a) h g = λ i. function op (tree-end j k a h g i)
    tree-end j k (modulo a b) h g = λ i. modulo (tree-end j k a h g i) (tree-end (j + reference_count a) (k + reference_count a) b (omega arith) (omega arith) i)
    tree-end j k (aggregate op all) h g = λ i. aggregate op (arguments-end j k all h g i)

    arguments-end : (j k : ℕ) (all : Arguments) → numbers_end pairs ≤ j → numbers_end pairs ≤ k
        → with_numbered_arguments (renamed_path pairs) (renamed_area pairs) j all ≡ with_numbered_arguments (renamed_path pairs) (renamed_area pairs) k all
    arguments-end j k no_more h g = refl
    arguments-end j k (tree t more) h g = λ i. tree (tree-end j k t h g i) (arguments-end (j + reference_count t) (k + reference_count t) more (omega arith) (omega arith) i)
    arguments-end j k (cells area more) h g = λ i. cells (area-end j k area h g i) (arguments-end (j + 1) (k + 1) more (omega arith) (omega arith) i)

  -- so a number may be kept below the end
  number-capped : (n : ℕ) → n < numbers_end pairs → n ≡ min n (numbers_end pairs)
  number-capped n h = omega arith

  pub tree_capped : (n : ℕ) (t : Tree)
      → with_numbered (renamed_path pairs) (renamed_area pairs) n t ≡ with_numbered (renamed_path pairs) (renamed_area pairs) (min n (numbers_end pairs)) t
  tree_capped n t =
      elim (cases_lt n (numbers_end pairs)) [
        | inl h ↦ ap (λ k. with_numbered (renamed_path pairs) (renamed_area pairs) k t) (number-capped n h)
        | inr h ↦ tree-end n (min n (numbers_end pairs)) t h (omega arith)
      ]

  -- also where references after it are counted on
  pub tree_capped_from : (n k : ℕ) (t : Tree)
      → with_numbered (renamed_path pairs) (renamed_area pairs) (n + k) t ≡ with_numbered (renamed_path pairs) (renamed_area pairs) (min n (numbers_end pairs) + k) t
  tree_capped_from n k t =
      elim (cases_lt n (numbers_end pairs)) [
        | inl h ↦ ap (λ m. with_numbered (renamed_path pairs) (renamed_area pairs) (m + k) t) (number-capped n h)
        | inr h ↦ tree-end (n + k) (min n (numbers_end pairs) + k) t (omega arith) (omega arith)
      ]

  pub arguments_capped : (n : ℕ) (all : Arguments)
      → with_numbered_arguments (renamed_path pairs) (renamed_area pairs) n all ≡ with_numbered_arguments (renamed_path pairs) (renamed_area pairs) (min n (numbers_end pairs)) all
  arguments_capped n all =
      elim (cases_lt n (numbers_end pairs)) [
        | inl h ↦ ap (λ k. with_numbered_arguments (renamed_path pairs) (renamed_area pairs) k all) (number-capped n h)
        | inr h ↦ arguments-end n (min n (numbers_end pairs)) all h (omega arith)
      ]

  -- one argument more is behind the change, and that many references more are counted
  pub next_tree : (items copies next : List Argument) (i n m : ℕ) (x : Argument) (t e : Tree) → i < length items → x ≡ get_or items i x → x ≡ argument.Tree t
      → e ≡ with_numbered (renamed_path pairs) (renamed_area pairs) n t → m ≡ min (n + reference_count t) (numbers_end pairs) → next ≡ copies ++ argument.Tree e ∷ []
      → joined copies (with_numbered_arguments (renamed_path pairs) (renamed_area pairs) n (arguments_of (drop i items)))
      ≡ joined next (with_numbered_arguments (renamed_path pairs) (renamed_area pairs) m (arguments_of (drop (i + 1) items)))
  next_tree items copies next i n m x t e h at is new number more =
      rw (more, joined-append, drop-cons items i x, ← at, is, new, number, add-one i, ← arguments_capped (n + reference_count t) (arguments_of (drop (suc i) items)))

  pub next_area : (items copies next : List Argument) (i n m : ℕ) (x : Argument) (area new : Block) → i < length items → x ≡ get_or items i x → x ≡ argument.Cells area
      → new ≡ renamed_area pairs n area → m ≡ min (n + 1) (numbers_end pairs) → next ≡ copies ++ argument.Cells new ∷ []
      → joined copies (with_numbered_arguments (renamed_path pairs) (renamed_area pairs) n (arguments_of (drop i items)))
      ≡ joined next (with_numbered_arguments (renamed_path pairs) (renamed_area pairs) m (arguments_of (drop (i + 1) items)))
  next_area items copies next i n m x area new h at is changed number more =
      rw (more, joined-append, drop-cons items i x, ← at, is, changed, number, add-one i, ← arguments_capped (n + 1) (arguments_of (drop (suc i) items)))

  pub next_tree_count : (items : List Argument) (i n m : ℕ) (x : Argument) (t : Tree) → i < length items → x ≡ get_or items i x → x ≡ argument.Tree t
      → m ≡ min (n + reference_count t) (numbers_end pairs)
      → min (m + argument_reference_count (arguments_of (drop (i + 1) items))) (numbers_end pairs)
      ≡ min (n + argument_reference_count (arguments_of (drop i items))) (numbers_end pairs)
  next_tree_count items i n m x t h at is number = rw (drop-cons items i x, ← at, is, add-one i) (omega arith)

  pub next_area_count : (items : List Argument) (i n m : ℕ) (x : Argument) (area : Block) → i < length items → x ≡ get_or items i x → x ≡ argument.Cells area
      → m ≡ min (n + 1) (numbers_end pairs)
      → min (m + argument_reference_count (arguments_of (drop (i + 1) items))) (numbers_end pairs)
      ≡ min (n + argument_reference_count (arguments_of (drop i items))) (numbers_end pairs)
  next_area_count items i n m x area h at is number = rw (drop-cons items i x, ← at, is, add-one i) (omega arith)

  pub all_renamed : (items copies : List Argument) (i n m : ℕ) → length items ≤ i
      → with_numbered_arguments (renamed_path pairs) (renamed_area pairs) n (arguments_of items)
      ≡ joined copies (with_numbered_arguments (renamed_path pairs) (renamed_area pairs) m (arguments_of (drop i items)))
      → arguments_of copies ≡ with_numbered_arguments (renamed_path pairs) (renamed_area pairs) n (arguments_of items)
  all_renamed items copies i n m h e = rw (e, drop_all i items, joined-no_more)
