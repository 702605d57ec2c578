-- Attributes and pieces of text that are kept, and some that are not, worked out.
use Rattle.std.specs.Prelude.{◌≡◌, ℕ, zero, suc, true, false, List, [], ◌∷◌, ◌++◌, map, codes}
use Rattle.document_model.specs.declared.kind.ObjectKind.TheVariants.{VarSet, Sheet, Link, Feature}
use Rattle.document_model.specs.ForeignProperties.{is_properties_piece}
use Rattle.document_model.specs.KeptText.{is_attribute, are_attributes, is_piece, is_document_piece, is_object_piece, is_cells_piece, IsExtra, document_attributes, object_attributes, property_attributes, cell_attributes}
use Rattle.document_model.specs.LinkedBox.{box_plan}

-- an attribute is a whole one, of characters that XML allows; of those kept none stands twice, none is
-- one that is read of its element, and none is called `id`; so it is with those joined in a cell
pub record AttributesWork : Type 0 where
  pub one : is_attribute (codes "status=\"1\"") ≡ true
  pub with_blanks : is_attribute (codes "a = 'x>\"y'") ≡ true
  pub with_markup : is_attribute (codes "a=\"<\"") ≡ false
  pub with_more : is_attribute (codes "a=\"1\" b=\"2\"") ≡ false
  pub with_control : is_attribute (codes "a=\"" ++ 1 ∷ codes "\"") ≡ false
  pub ill_formed : is_attribute (codes "a=\"" ++ 255 ∷ codes "\"") ≡ false
  pub kept : are_attributes property_attributes (codes "status=\"1\"" ∷ codes "a=''" ∷ []) ≡ true
  pub twice : are_attributes property_attributes (codes "a=\"1\"" ∷ codes "a='2'" ∷ []) ≡ false
  pub id : are_attributes object_attributes (codes "id=\"7\"" ∷ []) ≡ false
  pub type_of_object : are_attributes object_attributes (codes "type=\"x\"" ∷ []) ≡ true
  pub type_of_property : are_attributes property_attributes (codes "type=\"x\"" ∷ []) ≡ false
  pub schema : are_attributes document_attributes (codes "SchemaVersion=\"4\"" ∷ []) ≡ false
  pub alias : are_attributes cell_attributes (codes "alias=\"a\"" ∷ []) ≡ false
  pub no_attribute : are_attributes property_attributes (codes "status" ∷ []) ≡ false
  pub joined : IsExtra cell_attributes (codes "a=\"1 2\" b='3'")
  pub alias_in_extra : IsExtra cell_attributes (codes "alias='a'") → ⊥

-- a piece is one whole element, with nothing before and after it, that is not read at its place
pub record PiecesWork : Type 0 where
  pub empty : is_document_piece (codes "<Properties Count=\"0\"/>") ≡ true
  pub full : is_document_piece (codes "<a><b/>text<!-- <c> --></a >") ≡ true
  pub cut_off : is_document_piece (codes "<a><b></a>") ≡ false
  pub blank_before : is_document_piece (codes " <a/>") ≡ false
  pub blank_behind : is_document_piece (codes "<a/> ") ≡ false
  pub two : is_document_piece (codes "<a></a><b></b>") ≡ false
  pub comment : is_document_piece (codes "<!-- a -->") ≡ false
  pub end_alone : is_document_piece (codes "</a>") ≡ false
  pub repeated : is_document_piece (codes "<a b=\"1\" b=\"2\"/>") ≡ false
  pub repeated_in_front : is_document_piece (codes "<a b=\"1\" b=\"2\"></a>") ≡ false
  pub control : is_document_piece (codes "<a>" ++ 1 ∷ codes "</a>") ≡ false
  pub objects : is_document_piece (codes "<Objects/>") ≡ false
  pub object_data : is_document_piece (codes "<ObjectData/>") ≡ false
  pub objects_elsewhere : is_object_piece (codes "<Objects/>") ≡ true
  pub properties : is_object_piece (codes "<Properties/>") ≡ false
  pub cell : is_cells_piece (codes "<Cell/>") ≡ false
  pub no_cell : is_cells_piece (codes "<Column/>") ≡ true
  pub deepest : is_piece 63 (λ t. true) (codes "<a></a>") ≡ true
  pub too_deep : is_piece 63 (λ t. true) (codes "<a><b/></a>") ≡ false

-- a property is foreign where its name is none of the kind's, and it is not dynamic
pub record ForeignPropertiesWork : Type 0 where
  pub other_element : is_properties_piece VarSet (codes "<Other name=\"Label\"/>") ≡ true
  pub unnamed : is_properties_piece VarSet (codes "<Property/>") ≡ true
  pub shape : is_properties_piece VarSet (codes "<Property name=\"Shape\" type=\"App::PropertyFloat\"/>") ≡ true
  pub label : is_properties_piece VarSet (codes "<Property name=\"Label\"/>") ≡ false
  pub by_reference : is_properties_piece VarSet (codes "<Property name=\"L&#97;bel\"/>") ≡ false
  pub no_reference : is_properties_piece VarSet (codes "<Property name=\"&x;\"/>") ≡ false
  pub dynamic : is_properties_piece VarSet (codes "<Property name=\"x\" type=\"App::PropertyFloat\" group=\"Base\"/>") ≡ false
  pub of_link : is_properties_piece Link (codes "<Property name=\"x\" type=\"App::PropertyFloat\" group=\"Base\"/>") ≡ true
  pub other_type : is_properties_piece VarSet (codes "<Property name=\"x\" type=\"App::PropertyColor\" group=\"Base\"/>") ≡ true
  pub untyped : is_properties_piece VarSet (codes "<Property name=\"x\" group=\"Base\"/>") ≡ true
  pub no_type : is_properties_piece VarSet (codes "<Property name=\"x\" type=\"&x;\" group=\"Base\"/>") ≡ false
  pub type_not_read : is_properties_piece VarSet (codes "<Property name=\"x\" type=\"&x;\"/>") ≡ true
  pub reserved : is_properties_piece VarSet (codes "<Property name=\"Global\" type=\"App::PropertyFloat\" group=\"Base\"/>") ≡ true
  pub address : is_properties_piece Sheet (codes "<Property name=\"A1\" type=\"App::PropertyFloat\" group=\"Base\"/>") ≡ true
  pub no_address : is_properties_piece VarSet (codes "<Property name=\"A1\" type=\"App::PropertyFloat\" group=\"Base\"/>") ≡ false
  pub input : is_properties_piece (Feature box_plan) (codes "<Property name=\"Length\"/>") ≡ false
  pub no_input : is_properties_piece VarSet (codes "<Property name=\"Length\"/>") ≡ true

-- an element with so many inside one another
abbrev pub nested : ℕ → List ℕ
nested zero = codes "<a/>"
nested (suc n) = codes "<a>" ++ nested n ++ codes "</a>"

-- at each place a piece may be as deep as the elements round it leave room; what is read of an element is
-- not kept besides; a feature and a sheet have dynamic properties too
pub record PlacesWork : Type 0 where
  pub in_document : is_document_piece (nested 62) ≡ true
  pub below_document : is_document_piece (nested 63) ≡ false
  pub in_object : is_object_piece (nested 60) ≡ true
  pub below_object : is_object_piece (nested 61) ≡ false
  pub in_properties : is_properties_piece VarSet (nested 59) ≡ true
  pub below_properties : is_properties_piece VarSet (nested 60) ≡ false
  pub in_cells : is_cells_piece (nested 57) ≡ true
  pub below_cells : is_cells_piece (nested 58) ≡ false
  pub read_of_object : are_attributes object_attributes (codes "name='x'" ∷ []) ≡ false
  pub read_of_property :
      map (λ source. are_attributes property_attributes (source ∷ []))
      (codes "name='x'" ∷ codes "group='x'" ∷ codes "doc='x'" ∷ codes "ro='1'" ∷ codes "hide='1'" ∷ [])
      ≡ false ∷ false ∷ false ∷ false ∷ false ∷ []
  pub read_of_cell : map (λ source. are_attributes cell_attributes (source ∷ [])) (codes "address='A1'" ∷ codes "content='1'" ∷ []) ≡ false ∷ false ∷ []
  pub dynamic_of_sheet : is_properties_piece Sheet (codes "<Property name=\"x\" type=\"App::PropertyFloat\" group=\"Base\"/>") ≡ false
  pub dynamic_of_box : is_properties_piece (Feature box_plan) (codes "<Property name=\"x\" type=\"App::PropertyFloat\" group=\"Base\"/>") ≡ false
  pub output : is_properties_piece (Feature box_plan) (codes "<Property name=\"Volume\" type=\"App::PropertyFloat\" group=\"Base\"/>") ≡ false
  pub output_without_group : is_properties_piece (Feature box_plan) (codes "<Property name=\"Volume\"/>") ≡ true
  pub no_cell : is_properties_piece Sheet (codes "<Property name=\"A0\" type=\"App::PropertyFloat\" group=\"Base\"/>") ≡ true
