use Rattle.document_model.proofs.FormLemmas.{IsWellFormed-with_object, IsWellFormed-without_object, IsWellFormed-with_property, IsWellFormed-without_property}
use Rattle.document_model.proofs.TypedContents.{IsWellFormed-with_typed_content}
use Rattle.document_model.proofs.laws.edits_keep_form.Goals as goal

pub returns : goal.returns
returns c = record {
  object_added = IsWellFormed-with_object;
  object_removed = IsWellFormed-without_object;
  property_added = IsWellFormed-with_property;
  property_removed = IsWellFormed-without_property;
  content_changed = IsWellFormed-with_typed_content;
}
