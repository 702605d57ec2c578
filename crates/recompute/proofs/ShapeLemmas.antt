-- The shape of an expression has its outcome, as many nodes are visited of it, and it has as many nodes.
use Rattle.std.proofs.Common.{◌≡◌, ◌∙◌, ◌+◌, ℕ, Some, ap, refl, subst, sym}
use Rattle.fc_base.specs.Places.{Block}
use Rattle.object_paths.specs.declared.path.Path.{Path}
use Rattle.property_types.specs.declared.value.ValueFault.TheVariants.{OutOfType}
use Rattle.expr_tree.specs.Nodes.{node_count, argument_nodes}
use Rattle.expr_tree.specs.References.{with_references, with_argument_references}
use Rattle.expr_tree.specs.Tree.{Tree, literal, unit_one, flag, text, path, negate, binary, power, compare, conditional, function, modulo, aggregate, Arguments, no_more, tree, cells}
use Rattle.expr_tree.proofs.NumberedLemmas.{with_numbered-const}
use Rattle.expr_eval.specs.Outcomes.{Reading, outcome_of}
use Rattle.expr_eval.specs.Visited.{visited}
use Rattle.expr_eval.proofs.SpellingLemmas.{outcome-numbered, visited-numbered}
use Rattle.doc_tables.specs.Accessors.{IsShape, IsShapeOf, tree_at}
use Rattle.doc_tables.specs.Numbered.{Numbered}
use Rattle.doc_tables.proofs.ShapeLemmas.{shape-same, written-of}
use Rattle.recompute.specs.Evaluated.{nodes_of}
use Rattle.recompute.specs.Steps.{nodes_at}

pub outcome-of_shape : (r : Reading) (k : ℕ) (written shape : Tree) → IsShapeOf written shape → outcome_of r k shape ≡ outcome_of r k written
outcome-of_shape r k =
    shape-same (outcome_of r k)
    (λ on_path on_area t. subst (λ (u : Tree). outcome_of r k u ≡ outcome_of r k t) (with_numbered-const on_path on_area 0 t) (outcome-numbered (λ _. on_path) (λ _. on_area) OutOfType r 0 k t))

pub visited-of_shape : (r : Reading) (k : ℕ) (written shape : Tree) → IsShapeOf written shape → visited r k shape ≡ visited r k written
visited-of_shape r k =
    shape-same (visited r k)
    (λ on_path on_area t. subst (λ (u : Tree). visited r k u ≡ visited r k t) (with_numbered-const on_path on_area 0 t) (visited-numbered (λ _. on_path) (λ _. on_area) r 0 k t))

module _ (on_path : Path → Path) (on_area : Block → Block) where
  mutual
    nodes-changed : (t : Tree) → node_count (with_references on_path on_area t) ≡ node_count t
    nodes-changed (literal x u) = refl
    nodes-changed (unit_one u) = refl
    nodes-changed (flag b) = refl
    nodes-changed (text t) = refl
    nodes-changed (path p) = refl
    nodes-changed (negate a) = rw (nodes-changed a)
    nodes-changed (binary op a b) = rw (nodes-changed a, nodes-changed b)
    nodes-changed (power a n) = rw (nodes-changed a)
    nodes-changed (compare op a b) = rw (nodes-changed a, nodes-changed b)
    nodes-changed (conditional c a b) = rw (nodes-changed c, nodes-changed a, nodes-changed b)
    nodes-changed (function op a) = rw (nodes-changed a)
    nodes-changed (modulo a b) = rw (nodes-changed a, nodes-changed b)
    nodes-changed (aggregate op all) = rw (nodes-changed_arguments all)

    nodes-changed_arguments : (all : Arguments) → argument_nodes (with_argument_references on_path on_area all) ≡ argument_nodes all
    nodes-changed_arguments no_more = refl
    nodes-changed_arguments (tree t more) = rw (nodes-changed t, nodes-changed_arguments more)
    nodes-changed_arguments (cells area more) = nodes-changed_arguments more

-- the shape of the expression of the slot of a number has as many nodes as are at that number
pub nodes-at_shape : (t : Numbered) (n : ℕ) (shape : Tree) → IsShape (tree_at t n) (Some shape) → node_count shape ≡ nodes_at t n
nodes-at_shape t n shape h =
    let w = written-of (tree_at t n) shape h in
    shape-same node_count nodes-changed w.0 shape w.2 ∙ sym (ap nodes_of w.1)
