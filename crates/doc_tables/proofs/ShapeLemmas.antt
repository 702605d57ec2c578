-- What does not hang on which paths and areas stand in an expression is told by its shape.
use Rattle.std.proofs.Common.{◌≡◌, false, [], Option, Some, None, refl, sym, ap, subst, ◌∙◌}
use Rattle.fc_base.specs.Places.{Block, Place}
use Rattle.object_paths.specs.declared.path.Owner.TheVariants.{Here}
use Rattle.object_paths.specs.declared.path.Path.{Path}
use Rattle.object_paths.specs.declared.slot_name.SlotName.TheVariants.{Plain}
use Rattle.expr_tree.specs.References.{with_references}
use Rattle.expr_tree.specs.Tree.{Tree}
use Rattle.doc_tables.specs.Accessors.{IsShape, IsShapeOf}

some_path : Path
some_path = record { owner = Here; slot = Plain [] }

some_place : Place
some_place = record { column = 1; row = 1; fixed_column = false; fixed_row = false }

some_area : Block
some_area = record { from = some_place; to = some_place }

-- what is the same of a tree with other references is the same of the shape
pub shape-same : {A : Type 0} (f : Tree → A) → ((on_path : Path → Path) (on_area : Block → Block) (t : Tree) → f (with_references on_path on_area t) ≡ f t)
    → (written shape : Tree) → IsShapeOf written shape → f shape ≡ f written
shape-same f same written shape h =
    sym (same (λ _. some_path) (λ _. some_area) shape) ∙ ap f (h some_path some_area) ∙ same (λ _. some_path) (λ _. some_area) written

-- an expression is its own shape
pub shape-own : (e : Option Tree) → IsShape e e
shape-own None = tt
shape-own (Some e) = λ p area. refl

-- where there is a shape there is an expression, and where there is none there is none
pub written-of : (e : Option Tree) (shape : Tree) → IsShape e (Some shape) → (t : Tree) × (e ≡ Some t) × IsShapeOf t shape
written-of None shape h = absurd h
written-of (Some t) shape h = (t, refl, h)

-- the expression of which a shape is one
pub written-is : (e : Option Tree) (shape t : Tree) → IsShape e (Some shape) → e ≡ Some t → IsShapeOf t shape
written-is e shape t h is = subst (λ (x : Option Tree). IsShape x (Some shape)) is h

pub written-none : (e : Option Tree) → IsShape e None → e ≡ None
written-none None h = refl
written-none (Some t) h = absurd h
