-- Why commands are refused, and how a refusal is written.
use Rattle.std.specs.Prelude.{ℕ, Bool, ◌==◌, List, [], ◌∷◌, ◌++◌, find, Option, is_some, decimal, codes}
use Rattle.std.specs.Option.{option_map_or}
use Rattle.document_outcomes.specs.RefusalNumbers as number
use Rattle.doc_rules.specs.declared.refusal.Refusal.{Refusal}

-- the numbers of refusals, and the names that are written
abbrev pub refusals : List (ℕ × List ℕ)
refusals =
    (number.syntax, codes "Syntax") ∷ (number.no_object, codes "NoObject")
    ∷ (number.no_property, codes "NoProperty") ∷ (number.name_taken, codes "NameTaken")
    ∷ (number.bad_name, codes "BadName") ∷ (number.label_taken, codes "LabelTaken")
    ∷ (number.bad_label, codes "BadLabel") ∷ (number.read_only, codes "ReadOnly")
    ∷ (number.wrong_type, codes "WrongType") ∷ (number.out_of_range, codes "OutOfRange")
    ∷ (number.expr_syntax, codes "ExprSyntax") ∷ (number.unknown_reference, codes "UnknownReference")
    ∷ (number.not_dynamic, codes "NotDynamic") ∷ (number.cycle, codes "Cycle")
    ∷ (number.unit_mismatch, codes "UnitMismatch") ∷ (number.kind_mismatch, codes "KindMismatch")
    ∷ (number.exponent_range, codes "ExponentRange") ∷ (number.not_overridden, codes "NotOverridden")
    ∷ (number.sheet_edge, codes "SheetEdge") ∷ (number.cell_taken, codes "CellTaken")
    ∷ (number.bad_alias, codes "BadAlias") ∷ (number.alias_taken, codes "AliasTaken")
    ∷ (number.link_kind, codes "LinkKind") ∷ (number.transaction_open, codes "TransactionOpen")
    ∷ (number.no_transaction, codes "NoTransaction") ∷ (number.nothing_to_undo, codes "NothingToUndo")
    ∷ (number.nothing_to_redo, codes "NothingToRedo") ∷ (number.not_recomputed, codes "NotRecomputed")
    ∷ (number.too_many, codes "TooMany") ∷ (number.no_feature, codes "NoFeature")
    ∷ (number.not_built, codes "NotBuilt") ∷ []

-- the refusal of a number
abbrev pub refusal_of : ℕ → Option (ℕ × List ℕ)
refusal_of n = find (λ (r : ℕ × List ℕ). r.0 == n) refusals

-- a number that a refusal has
abbrev pub is_refusal_number : ℕ → Bool
is_refusal_number n = is_some (refusal_of n)

-- the name of the refusal of a number
abbrev pub refusal_name : ℕ → List ℕ
refusal_name n = option_map_or (λ (r : ℕ × List ℕ). r.1) (refusal_of n) []

-- a text behind a space, and nothing of an empty one
abbrev pub behind_space : List ℕ → List ℕ
behind_space [] = []
behind_space (byte ∷ bytes) = 32 ∷ byte ∷ bytes

-- the place of a fault
abbrev pub place_text : ℕ → List ℕ
place_text place = codes " at " ++ decimal place

-- a refusal as it is answered, such as `refused 14 Cycle V.a` or `refused 11 ExprSyntax at 2`
abbrev pub refusal_text : Refusal → List ℕ
refusal_text r =
    codes "refused " ++ decimal r.number ++ 32 ∷ refusal_name r.number ++ option_map_or behind_space r.subject []
    ++ option_map_or place_text r.place []
