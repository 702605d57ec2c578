-- Private: only contracts inside this crate cite this.
-- Documents that are filled with objects of the first form.
use Rattle.std.specs.Prelude.{ℕ, List}
use Rattle.object_paths.specs.declared.slot_name.SlotName.TheVariants.{Plain}
use Rattle.property_types.specs.declared.prop_type.PropType.TheVariants.{Float}
use Rattle.document_model.specs.declared.content.Content.TheVariants.{Own}
use Rattle.document_model.specs.Document.{Document}
use Rattle.document_model.specs.Edited.{new_property, with_content, with_object, with_property}
use Rattle.fcdoc_file.specs.FirstDocument.{pure_number, var_set_object}
use Rattle.fcdoc_file.specs.FirstForm.{FirstProperty, FirstObject}

-- one more object, its last
abbrev pub with_first : Document → FirstObject → Document
with_first d o = with_object d (var_set_object o)

-- one more property, with its value, of an object
abbrev pub with_float : Document → List ℕ → FirstProperty → Document
with_float d object p =
    with_content (with_property d object (new_property p.name Float)) (record { object = object; name = Plain p.name }) (Own (pure_number p.value))
