-- The references of a tree as the code lists them.
use Rattle.expr_tree.specs.declared.reference.Reference as listed
use Rattle.expr_tree.specs.declared.reference.Reference.TheVariants.{ToPath, ToArea}
use Rattle.expr_tree.specs.References.{Reference, to_path, to_area}

-- a path or an area of a tree, as a reference
abbrev pub reference_of : listed.Reference → Reference
reference_of (ToPath path) = to_path path.now
reference_of (ToArea area) = to_area area.now
