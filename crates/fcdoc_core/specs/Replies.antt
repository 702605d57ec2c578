-- The texts of answers.
use Rattle.std.specs.Prelude.{ℕ, List, [], ◌∷◌, ◌++◌, Bool, true, false, ◌==◌, if◌then◌else◌, Option, None, Some, Result, Ok, Err, codes, decimal}
use Rattle.std.specs.List.{flat_map}
use Rattle.quantities.specs.Texts.{decimal_text}
use Rattle.unit_signatures.specs.UnitTexts.{unit_text}
use Rattle.property_types.specs.declared.value.Value.{Value}
use Rattle.property_types.specs.declared.value.Value.TheVariants.{Number, Flag, Text}
use Rattle.property_types.specs.declared.value.ValueFault.{ValueFault}
use Rattle.property_types.specs.declared.value.ValueFault.TheVariants.{Range, DivideByZero, NotWhole, OutOfType, EmptyAggregate}
use Rattle.property_types.specs.Values.{Outcome}
use Rattle.recompute.specs.declared.values.Report.{Report}
use Rattle.doc_rules.specs.declared.refusal.Refusal.{Refusal}
use Rattle.doc_rules.specs.Edits.{refusal_of_fault}
use Rattle.doc_rules.specs.Refusals.{refusal_text}
use Rattle.fcdoc_core.specs.declared.reply.Reply.{Reply}
use Rattle.fcdoc_core.specs.declared.reply.Reply.TheVariants as reply
use Rattle.fcdoc_file.specs.Loading.{Unloaded, malformed, not_built}
use Rattle.fcdoc_file.specs.declared.load_error.LoadCause as l
use Rattle.fcdoc_file.specs.declared.load_error.LoadCause.TheVariants as cause
use Rattle.fcdoc_core.specs.Opening.{Unopened, unloaded, faulty}
use Rattle.fcdoc_core.specs.Scripts.{Unreadable, not_utf8, line_too_long, too_many_lines}

-- ---- values

-- a byte of a text in quotes: `"`, `\`, LF, CR and tab have a backslash in front
abbrev pub escaped_byte : ℕ → List ℕ
escaped_byte b =
    if b == 34 then codes "\\\"" else if b == 92 then codes "\\\\" else if b == 10 then codes "\\n" else if b == 13 then codes "\\r"
    else if b == 9 then codes "\\t" else b ∷ []

-- a space and the unit, where there is one
abbrev pub behind_number : List ℕ → List ℕ
behind_number [] = []
behind_number (c ∷ cs) = 32 ∷ c ∷ cs

-- a flag
abbrev pub flag_text : Bool → List ℕ
flag_text true = codes "true"
flag_text false = codes "false"

-- a number with its unit, a flag, or a text in quotes
abbrev pub value_text : Value → List ℕ
value_text (Number q) = decimal_text q.amount ++ behind_number (unit_text q.unit)
value_text (Flag b) = flag_text b
value_text (Text t) = 34 ∷ (flat_map escaped_byte t ++ 34 ∷ [])

-- the name of a fault
abbrev pub fault_name : ValueFault → List ℕ
fault_name Range = codes "Range"
fault_name DivideByZero = codes "DivideByZero"
fault_name NotWhole = codes "NotWhole"
fault_name OutOfType = codes "OutOfType"
fault_name EmptyAggregate = codes "EmptyAggregate"

-- ---- replies, with their line ends

abbrev pub outcome_line : Outcome → List ℕ
outcome_line (Ok v) = codes "= " ++ value_text v ++ codes "\n"
outcome_line (Err fault) = codes "! " ++ fault_name fault ++ codes "\n"

abbrev pub expression_line : Option (List ℕ) → List ℕ
expression_line None = codes ": none\n"
expression_line (Some text) = codes ": " ++ text ++ codes "\n"

abbrev pub recomputed_line : Report → List ℕ
recomputed_line report =
    codes "recomputed " ++ decimal report.calls ++ codes " calls " ++ decimal report.faults ++ codes " faults\n"

-- the reply of a command that was done
abbrev pub reply_text : Reply → List ℕ
reply_text reply.Ok = codes "ok\n"
reply_text (reply.Value outcome) = outcome_line outcome
reply_text (reply.Expression text) = expression_line text
reply_text (reply.Recomputed report) = recomputed_line report

-- the line of an answer
abbrev pub answer_text : Result Reply Refusal → List ℕ
answer_text (Ok r) = reply_text r
answer_text (Err r) = refusal_text r ++ codes "\n"

-- the name of a cause
abbrev pub cause_text : l.LoadCause → List ℕ
cause_text cause.NotUtf8 = codes "NotUtf8"
cause_text cause.Character = codes "Character"
cause_text cause.Truncated = codes "Truncated"
cause_text cause.Declaration = codes "Declaration"
cause_text cause.Unbalanced = codes "Unbalanced"
cause_text cause.Deep = codes "Deep"
cause_text cause.RepeatedAttribute = codes "RepeatedAttribute"
cause_text cause.Syntax = codes "Syntax"

-- the line for bytes that are no document
abbrev pub unloaded_text : Unloaded → List ℕ
unloaded_text not_built = codes "document refused NotBuilt\n"
unloaded_text (malformed f) = codes "document refused " ++ cause_text f.cause ++ codes " at " ++ decimal f.place ++ codes "\n"

-- the line for a document that is not opened
abbrev pub unopened_text : Unopened → List ℕ
unopened_text (unloaded cause) = unloaded_text cause
unopened_text (faulty f) = codes "document " ++ refusal_text (refusal_of_fault f) ++ codes "\n"

-- the line for bytes that are no script
abbrev pub unreadable_text : Unreadable → List ℕ
unreadable_text (not_utf8 number) = codes "script refused NotUtf8 " ++ decimal number ++ codes "\n"
unreadable_text (line_too_long number) = codes "script refused LineTooLong " ++ decimal number ++ codes "\n"
unreadable_text too_many_lines = codes "script refused TooManyLines\n"
