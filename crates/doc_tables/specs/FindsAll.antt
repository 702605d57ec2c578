-- Documents in which each object, and each slot of an object, is found by its name.
use Rattle.std.specs.Prelude.{◌≡◌, Some}
use Rattle.fc_base.specs.Graph.{IsIn}
use Rattle.document_model.specs.Document.{Document, Object, object_named}
use Rattle.document_model.specs.Slots.{Row, rows, row_in}

-- No two objects have one name, and no two slots of one object.
pub record FindsAll (d : Document) : Type 0 where
  pub objects : (o : Object) → IsIn o d.objects → object_named d o.name ≡ Some o
  pub rows : (o : Object) (r : Row) → IsIn o d.objects → IsIn r (rows d o) → row_in (rows d o) r.name ≡ Some r
