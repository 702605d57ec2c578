-- What bytes are loaded as.
use Rattle.std.specs.Prelude.{◌≡◌, ⊤, ℕ, List, Option, None, Some, Result, Ok, Err}
use Rattle.document_model.specs.Document.{Document}
use Rattle.doc_tables.specs.Numbered.{Numbered}
use Rattle.fcxml_profile.specs.Scanning.{scan_of}
use Rattle.fcxml_profile.specs.declared.fault.XmlFault.{XmlFault}
use Rattle.fcdoc_file.specs.Causes.{load_fault_of}
use Rattle.fcdoc_file.specs.Reading.{document_of}
use Rattle.fcdoc_file.specs.declared.load_error.LoadFault.{LoadFault}
use Rattle.fcdoc_file.specs.declared.load_error.LoadError.{LoadError}
use Rattle.fcdoc_file.specs.declared.load_error.LoadError.TheVariants.{Load, NotBuilt, Memory}

-- Why bytes are no document: they are not well-formed, or a document of a form that is not read yet.
pub data Unloaded : Type 0 where
  malformed : LoadFault → Unloaded
  not_built : Unloaded

-- well-formed bytes are a document where they are a text of the first form
abbrev pub loaded_by : Option XmlFault → Option Document → Result Document Unloaded
loaded_by (Some fault) found = Err (malformed (load_fault_of fault))
loaded_by None (Some d) = Ok d
loaded_by None None = Err not_built

-- the document that bytes are the text of, or why they are none
abbrev pub loaded : List ℕ → Result Document Unloaded
loaded bytes = loaded_by (scan_of bytes).fault (document_of bytes)

-- what a call tells of it; want of memory says nothing of the bytes
abbrev pub IsUnloaded : Unloaded → LoadError → Type 0
IsUnloaded (malformed fault) (Load told) = told ≡ fault
IsUnloaded (malformed fault) NotBuilt = ⊥
IsUnloaded (malformed fault) (Memory e) = ⊤
IsUnloaded not_built (Load told) = ⊥
IsUnloaded not_built NotBuilt = ⊤
IsUnloaded not_built (Memory e) = ⊤

abbrev pub Loads : Result Document Unloaded → Result Numbered LoadError → Type 0
Loads (Ok d) (Ok t) = t.document ≡ d
Loads (Err u) (Ok t) = ⊥
Loads (Err u) (Err e) = IsUnloaded u e
Loads (Ok d) (Err (Load told)) = ⊥
Loads (Ok d) (Err NotBuilt) = ⊥
Loads (Ok d) (Err (Memory e)) = ⊤
