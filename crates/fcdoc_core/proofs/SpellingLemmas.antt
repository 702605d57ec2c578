-- What lines spell is cut into its parts, and what is cut so was spelled.
use Rattle.std.proofs.Common.{suc-add, ◌≡◌, ◌⊎◌, inl, inr, ◌<◌, ◌+◌, ℕ, zero, suc, Bool, true, false, cond, ◌==◌, ◌&&◌, Option, List, [], ◌∷◌, ◌++◌, length, reverse, take, drop, codes, None, Some, Result, Ok, Err, refl, sym, ap, subst, ◌∙◌, append-nil, append_assoc, arith}
use Rattle.std.specs.List.{list_any, position_or_len}
use Rattle.std.specs.Str.{is_utf8, chars}
use Rattle.std.proofs.lemmas.Bool.{eqb-true, or_parts}
use Rattle.std.proofs.lemmas.List.{length-reverse, reverse-append, reverse-reverse}
use Rattle.std.proofs.Math.ListN.{drop_of_length-le}
use Rattle.std.proofs.Math.Seq.{take-append_seam, take-length, drop-append-add}
use Rattle.unit_signatures.specs.Table.{unit_named}
use Rattle.fc_base.specs.Places.{address_of}
use Rattle.fc_base.specs.Texts.{is_label}
use Rattle.object_paths.specs.PathParts.{after_blanks, trimmed, parts_of, owned, labelled_slot, labelled_path, opened, until_closing, is_blank, path_behind, path_of}
use Rattle.object_paths.specs.declared.slot_name.SlotName.{SlotName}
use Rattle.object_paths.specs.declared.path.Owner.TheVariants.{ByLabel}
use Rattle.std.specs.Option.{option_and_then, option_map}
use Rattle.std.specs.Str.{bytes_eq}
use Rattle.std.proofs.lemmas.Slice.Eq.{bytes_eq-Decides}
use Rattle.std.proofs.lemmas.List.{length-append}
use Rattle.object_paths.specs.declared.path.Path.{Path}
use Rattle.doc_rules.specs.declared.edit.Edit.TheVariants.{SetValue, Bind}
use Rattle.std.specs.Prelude.{IfOk, IsErrOf}
use Rattle.fcdoc_core.specs.declared.command.CommandFault.{CommandFault}
use Rattle.fcdoc_core.specs.declared.command.CommandFault.TheVariants.{NotBuilt, Memory}
use Rattle.fcdoc_core.specs.declared.command.Command.{Command}
use Rattle.fcdoc_core.specs.declared.command.Command.TheVariants as command
use Rattle.fcdoc_core.specs.Commands.{Reads, Cut, after_spaces, unspaced, cut_word, cut_at_label, cut_path, named_property, property_of, is_empty, is_control, path_alone, path_and_text, get_of, expression_of, set_of, bind_of, recompute_of, command_of_cut, command_of}
use Rattle.fcdoc_core.specs.Spelling.{spaces, IsWord, IsPlainWord, IsTarget, begins_with_space, IsUnspaced, IsOneWord, IsWordAndPath, IsPathAndText, Spells, IsLineOf}

no_path : property_of [] ≡ None
unfolding path_of unit_named is_utf8 chars address_of
no_path = refl

abbrev pub first_word : List ℕ → List ℕ
first_word text = (cut_word text).first

abbrev pub behind_word : List ℕ → List ℕ
behind_word text = (cut_word text).rest

-- spaces in front are left out
after_spaces-spaces : (n : ℕ) (text : List ℕ) → after_spaces (spaces n ++ text) ≡ after_spaces text
after_spaces-spaces zero text = refl
after_spaces-spaces (suc n) text = after_spaces-spaces n text

after_spaces-same : (text : List ℕ) → begins_with_space text ≡ false → after_spaces text ≡ text
after_spaces-same [] e = refl
after_spaces-same (c ∷ cs) e = rw e refl

only_spaces : (n : ℕ) → after_spaces (spaces n) ≡ []
only_spaces n = ap after_spaces (sym (append-nil (spaces n))) ∙ after_spaces-spaces n []

spaces-push : (n : ℕ) → spaces n ++ 32 ∷ [] ≡ 32 ∷ spaces n
spaces-push zero = refl
spaces-push (suc n) = ap (λ t. 32 ∷ t) (spaces-push n)

reverse-spaces : (n : ℕ) → reverse (spaces n) ≡ spaces n
reverse-spaces zero = refl
reverse-spaces (suc n) = reverse-append (32 ∷ []) (spaces n) ∙ ap (λ t. t ++ 32 ∷ []) (reverse-spaces n) ∙ spaces-push n

-- spaces at the end are left out
back-same : (n : ℕ) (text : List ℕ) → begins_with_space (reverse text) ≡ false → reverse (after_spaces (reverse (text ++ spaces n))) ≡ text
back-same n text e =
    ap (λ (t : List ℕ). reverse (after_spaces t)) (reverse-append text (spaces n) ∙ ap (λ t. t ++ reverse text) (reverse-spaces n))
    ∙ ap reverse (after_spaces-spaces n (reverse text) ∙ after_spaces-same (reverse text) e) ∙ reverse-reverse text

-- a text without outer spaces is found between any
pub unspaced-spaces : (m n : ℕ) (text : List ℕ) → IsUnspaced text → unspaced (spaces m ++ (text ++ spaces n)) ≡ text
unspaced-spaces m n [] is = ap (λ (t : List ℕ). reverse (after_spaces (reverse t))) (after_spaces-spaces m (spaces n) ∙ only_spaces n)
unspaced-spaces m n (c ∷ cs) is =
    ap (λ (t : List ℕ). reverse (after_spaces (reverse t))) (after_spaces-spaces m (c ∷ (cs ++ spaces n)) ∙ after_spaces-same (c ∷ (cs ++ spaces n)) is.front)
    ∙ back-same n (c ∷ cs) is.back

-- ---- words

word_position : (word rest : List ℕ) → IsWord word → position_or_len (λ c. c == 32) (word ++ 32 ∷ rest) ≡ length word
word_position [] rest is = refl
word_position (c ∷ cs) rest is =
    let parts = or_parts (c == 32) (list_any (λ b. b == 32) cs) is in
    rw (parts.0, word_position cs rest parts.1) (omega arith)

word_end : (word : List ℕ) → IsWord word → position_or_len (λ c. c == 32) word ≡ length word
word_end [] is = refl
word_end (c ∷ cs) is =
    let parts = or_parts (c == 32) (list_any (λ b. b == 32) cs) is in
    rw (parts.0, word_end cs parts.1) (omega arith)

-- a word in front of a space
first_word-append : (word rest : List ℕ) → IsWord word → first_word (word ++ 32 ∷ rest) ≡ word
first_word-append word rest is = ap (λ (n : ℕ). take n (word ++ 32 ∷ rest)) (word_position word rest is) ∙ take-append_seam word (32 ∷ rest)

behind_word-append : (word rest : List ℕ) → IsWord word → behind_word (word ++ 32 ∷ rest) ≡ unspaced rest
behind_word-append word rest is =
    ap (λ (n : ℕ). unspaced (drop (n + 1) (word ++ 32 ∷ rest))) (word_position word rest is) ∙ ap unspaced (drop-append-add word (32 ∷ rest) 1)

-- a word alone
first_word-word : (word : List ℕ) → IsWord word → first_word word ≡ word
first_word-word word is = ap (λ (n : ℕ). take n word) (word_end word is) ∙ take-length word

behind_word-word : (word : List ℕ) → IsWord word → behind_word word ≡ []
behind_word-word word is = ap unspaced (ap (λ (n : ℕ). drop (n + 1) word) (word_end word is) ∙ drop_of_length-le word (omega arith))

-- a word has no outer spaces
no_space_in_front : (text : List ℕ) → IsWord text → begins_with_space text ≡ false
no_space_in_front [] is = refl
no_space_in_front (c ∷ cs) is = (or_parts (c == 32) (list_any (λ b. b == 32) cs) is).0

any-append : (xs ys : List ℕ) → IsWord xs → IsWord ys → IsWord (xs ++ ys)
any-append [] ys h k = k
any-append (x ∷ xs) ys h k = let parts = or_parts (x == 32) (list_any (λ b. b == 32) xs) h in rw parts.0 (any-append xs ys parts.1 k)

reverse_word : (word : List ℕ) → IsWord word → IsWord (reverse word)
reverse_word [] is = refl
reverse_word (c ∷ cs) is =
    let parts = or_parts (c == 32) (list_any (λ b. b == 32) cs) is in
    rw (reverse-append (c ∷ []) cs) (any-append (reverse cs) (c ∷ []) (reverse_word cs parts.1) (rw parts.0 refl))

pub word_unspaced : (word : List ℕ) → IsWord word → IsUnspaced word
word_unspaced word is = record { front = no_space_in_front word is; back = no_space_in_front (reverse word) (reverse_word word is) }

-- the end of a text is that of its last part
begins-append : (xs ys : List ℕ) → 0 < length xs → begins_with_space (xs ++ ys) ≡ begins_with_space xs
begins-append [] ys some = absurd (omega arith)
begins-append (x ∷ xs) ys some = refl

ends-append : (xs ys : List ℕ) → 0 < length ys → IsUnspaced ys → begins_with_space (reverse (xs ++ ys)) ≡ false
ends-append xs ys some is =
    ap begins_with_space (reverse-append xs ys) ∙ begins-append (reverse ys) (reverse xs) (omega (arith, length-reverse ys)) ∙ is.back

-- ---- what is spelled is read

head_first : (word : List ℕ) (n : ℕ) (text : List ℕ) → IsWord word → first_word (word ++ 32 ∷ (spaces n ++ text)) ≡ word
head_first word n text is = first_word-append word (spaces n ++ text) is

head_behind : (word : List ℕ) (n : ℕ) (text : List ℕ) → IsWord word → IsUnspaced text → behind_word (word ++ 32 ∷ (spaces n ++ text)) ≡ text
head_behind word n text is unspaced_text =
    behind_word-append word (spaces n ++ text) is ∙ ap (λ t. unspaced (spaces n ++ t)) (sym (append-nil text)) ∙ unspaced-spaces n 0 text unspaced_text

regroup_end : (word between text : List ℕ) → word ++ 32 ∷ (between ++ text) ≡ (word ++ 32 ∷ between) ++ text
regroup_end word between text = simp append_assoc

regroup_spaces : (word between text behind : List ℕ) → word ++ 32 ∷ (between ++ (text ++ behind)) ≡ (word ++ 32 ∷ (between ++ text)) ++ behind
regroup_spaces word between text behind = simp append_assoc

joined_unspaced : (word : List ℕ) (n : ℕ) (text : List ℕ) → IsWord word → 0 < length word → IsUnspaced text → 0 < length text → IsUnspaced (word ++ 32 ∷ (spaces n ++ text))
joined_unspaced word n text is some unspaced_text filled = record {
  front = begins-append word (32 ∷ (spaces n ++ text)) some ∙ no_space_in_front word is;
  back = ap (λ (t : List ℕ). begins_with_space (reverse t)) (regroup_end word (spaces n) text) ∙ ends-append (word ++ 32 ∷ spaces n) text filled unspaced_text;
}

-- ---- paths with a label in front

pub both_true : (a b : Bool) → (a && b) ≡ true → (a ≡ true) × (b ≡ true)
both_true true b e = (refl, e)
both_true false b e = absurd (cc)

after_blanks-append : (text : List ℕ) → after_blanks (text ++ 60 ∷ 60 ∷ []) ≡ after_blanks text ++ 60 ∷ 60 ∷ []
after_blanks-append [] = refl
after_blanks-append (c ∷ cs) =
    elim (is_blank c) as (λ b. cond b (after_blanks (cs ++ 60 ∷ 60 ∷ [])) (c ∷ (cs ++ 60 ∷ 60 ∷ [])) ≡ cond b (after_blanks cs) (c ∷ cs) ++ 60 ∷ 60 ∷ []) [
      | true ↦ after_blanks-append cs
      | false ↦ refl
    ]

-- the opening marks stay where the blanks at the end are left out
trimmed-opened : (text : List ℕ) → trimmed (60 ∷ 60 ∷ text) ≡ 60 ∷ 60 ∷ reverse (after_blanks (reverse text))
trimmed-opened text =
    ap (λ (t : List ℕ). reverse (after_blanks t)) (reverse-append (60 ∷ 60 ∷ []) text)
    ∙ ap reverse (after_blanks-append (reverse text))
    ∙ reverse-append (after_blanks (reverse text)) (60 ∷ 60 ∷ [])

owned_not_named : (label : List ℕ) (slot : Option SlotName) → option_and_then named_property (owned (ByLabel label) slot) ≡ None
owned_not_named label None = refl
owned_not_named label (Some s) = refl

labelled_not_named : (found : Option (List ℕ × List ℕ)) → option_and_then named_property (option_and_then labelled_path found) ≡ None
labelled_not_named None = refl
labelled_not_named (Some p) =
    elim (is_label p.0) as (λ b. option_and_then named_property (cond b (owned (ByLabel p.0) (labelled_slot (parts_of p.1))) None) ≡ None) [
      | true ↦ owned_not_named p.0 (labelled_slot (parts_of p.1))
      | false ↦ refl
    ]

-- a path with a label is none of the form NAME.PROP
no_property : (text : List ℕ) → property_of (60 ∷ 60 ∷ text) ≡ None
unfolding path_of
no_property text =
    ap (λ (t : List ℕ). option_and_then named_property (path_behind (opened t) t)) (trimmed-opened text)
    ∙ labelled_not_named (until_closing (reverse (after_blanks (reverse text))))

-- so where such a path is cut, it is a word
cut_path-word : (text : List ℕ) (path : Path) → property_of (cut_path text).first ≡ Some path → cut_path text ≡ cut_word text
cut_path-word text path =
    elim (option_and_then until_closing (opened text)) as (λ o. property_of (cut_at_label o text).first ≡ Some path → cut_at_label o text ≡ cut_word text) [
      | None ↦ λ _. refl
      | Some p ↦ λ e. let none = no_property (p.0 ++ (62 ∷ 62 ∷ first_word p.1)) in absurd (cc)
    ]

plain_target : (target : List ℕ) (path : Path) → IsTarget target → property_of target ≡ Some path → IsPlainWord target
plain_target target path (inl plain) e = plain
plain_target target path (inr labelled) e =
    let none = ap property_of labelled.stands ∙ no_property (labelled.label ++ (62 ∷ 62 ∷ labelled.behind)) in
    absurd (cc)

word_target : (target : List ℕ) (path : Path) → IsWord target → property_of target ≡ Some path → IsTarget target
word_target target path word e = inl (record {
  word = word;
  plain = λ rest stands. let none = ap property_of stands ∙ no_property rest in absurd (cc);
})

-- a word that begins with no `<<` opens no label, and no space behind it changes that
both_false : (a : Bool) → (a && false) ≡ false
both_false true = refl
both_false false = refl

marks_are : (a b : ℕ) → ((a == 60) && (b == 60)) ≡ true → (a ≡ 60) × (b ≡ 60)
marks_are a b e = let parts = both_true (a == 60) (b == 60) e in (eqb-true a 60 parts.0, eqb-true b 60 parts.1)

opened-plain : (word rest : List ℕ) → IsPlainWord word → opened (word ++ 32 ∷ rest) ≡ None
opened-plain [] [] is = refl
opened-plain [] (c ∷ cs) is = refl
opened-plain (a ∷ []) rest is = rw (both_false (a == 60)) refl
opened-plain (a ∷ b ∷ more) rest is =
    elim ((a == 60) && (b == 60)) as (λ t. ((a == 60) && (b == 60)) ≡ t → cond {A = Option (List ℕ)} t (Some (more ++ 32 ∷ rest)) None ≡ None) [
      | true ↦ λ e. let marks = marks_are a b e in absurd (is.plain more (rw (marks.0, marks.1) refl))
      | false ↦ λ _. refl
    ] refl

opened-word : (word : List ℕ) → IsPlainWord word → opened word ≡ None
opened-word [] is = refl
opened-word (a ∷ []) is = refl
opened-word (a ∷ b ∷ more) is =
    elim ((a == 60) && (b == 60)) as (λ t. ((a == 60) && (b == 60)) ≡ t → cond {A = Option (List ℕ)} t (Some more) None ≡ None) [
      | true ↦ λ e. let marks = marks_are a b e in absurd (is.plain more (rw (marks.0, marks.1) refl))
      | false ↦ λ _. refl
    ] refl

unopened : (text : List ℕ) → opened text ≡ None → cut_path text ≡ cut_word text
unopened text e = ap (λ (o : Option (List ℕ)). cut_at_label (option_and_then until_closing o) text) e

cut_lone : (word : List ℕ) → IsWord word → cut_word word ≡ record { first = word; rest = [] }
cut_lone word is = ap (λ (w : List ℕ). record { first = w; rest = behind_word word }) (first_word-word word is) ∙ ap (λ (r : List ℕ). record { first = word; rest = r }) (behind_word-word word is)

cut_front : (word : List ℕ) (n : ℕ) (text : List ℕ) → IsWord word → IsUnspaced text → cut_word (word ++ 32 ∷ (spaces n ++ text)) ≡ record { first = word; rest = text }
cut_front word n text is unspaced_text =
    ap (λ (w : List ℕ). record { first = w; rest = behind_word (word ++ 32 ∷ (spaces n ++ text)) }) (head_first word n text is)
    ∙ ap (λ (r : List ℕ). record { first = word; rest = r }) (head_behind word n text is unspaced_text)

path_lone : (target : List ℕ) → IsPlainWord target → cut_path target ≡ record { first = target; rest = [] }
path_lone target is = unopened target (opened-word target is) ∙ cut_lone target is.word

path_front : (target : List ℕ) (n : ℕ) (tail : List ℕ) → IsPlainWord target → IsUnspaced tail → cut_path (target ++ 32 ∷ (spaces n ++ tail)) ≡ record { first = target; rest = tail }
path_front target n tail is unspaced_tail = unopened (target ++ 32 ∷ (spaces n ++ tail)) (opened-plain target (spaces n ++ tail) is) ∙ cut_front target n tail is.word unspaced_tail

-- ---- lines, cut behind their verb

cut_one : (line verb : List ℕ) → IsOneWord line verb → IsWord verb → cut_word (unspaced line) ≡ record { first = verb; rest = [] }
cut_one line verb is word =
    ap cut_word (ap unspaced is.text ∙ unspaced-spaces is.before is.behind verb (word_unspaced verb word)) ∙ cut_lone verb word

cut_two : (line verb target : List ℕ) → IsWordAndPath line verb target → IsWord target → IsWord verb → 0 < length verb → 0 < length target
    → cut_word (unspaced line) ≡ record { first = verb; rest = target }
cut_two line verb target is one word some filled =
    let target_is = word_unspaced target one in
    let core : List ℕ = verb ++ 32 ∷ (spaces is.between ++ target) in
    let found : unspaced line ≡ core =
    ap unspaced (is.text ∙ ap (λ t. spaces is.before ++ t) (regroup_spaces verb (spaces is.between) target (spaces is.behind)))
    ∙ unspaced-spaces is.before is.behind core (joined_unspaced verb is.between target word some target_is filled) in
    ap cut_word found ∙ cut_front verb is.between target word target_is

cut_three : (line verb target tail : List ℕ) → (is : IsPathAndText line verb target tail) → IsWord target → IsWord verb → 0 < length verb → 0 < length target
    → cut_word (unspaced line) ≡ record { first = verb; rest = target ++ 32 ∷ (spaces is.further ++ tail) }
cut_three line verb target tail is one word some filled =
    let rest : List ℕ = target ++ 32 ∷ (spaces is.further ++ tail) in
    let rest_is : IsUnspaced rest = joined_unspaced target is.further tail one filled is.unspaced is.some in
    let core : List ℕ = verb ++ 32 ∷ (spaces is.between ++ rest) in
    let long : 0 < length rest = omega (arith, length-append target (32 ∷ (spaces is.further ++ tail))) in
    let found : unspaced line ≡ core =
    ap unspaced (is.text ∙ ap (λ t. spaces is.before ++ (verb ++ 32 ∷ (spaces is.between ++ t))) (regroup_spaces target (spaces is.further) tail (spaces is.behind))
    ∙ ap (λ t. spaces is.before ++ t) (regroup_spaces verb (spaces is.between) rest (spaces is.behind)))
    ∙ unspaced-spaces is.before is.behind core (joined_unspaced verb is.between rest word some rest_is long) in
    ap cut_word found ∙ cut_front verb is.between rest word rest_is

-- a word that is none spells no path
path_word : (target : List ℕ) (path : Path) → property_of target ≡ Some path → 0 < length target
path_word [] path e = let none = no_path in absurd (cc)
path_word (c ∷ cs) path e = omega arith

not_empty : (text : List ℕ) → 0 < length text → is_empty text ≡ false
not_empty [] some = absurd (omega arith)
not_empty (c ∷ cs) some = refl

by_cut : (line : List ℕ) (cut : Cut) (c : Command) → list_any is_control line ≡ false → cut_word (unspaced line) ≡ cut → command_of_cut cut ≡ Some c → command_of line ≡ Some c
by_cut line cut c plain found made = ap (λ b. cond b None (command_of_cut (cut_word (unspaced line)))) plain ∙ ap command_of_cut found ∙ made

with_text : (target tail : List ℕ) (path : Path) → 0 < length tail → property_of target ≡ Some path → path_and_text (record { first = target; rest = tail }) ≡ Some (path, tail)
with_text target tail path some spelled = rw (not_empty tail some, spelled) refl

path_is : (target : List ℕ) (path : Path) → IsTarget target → property_of target ≡ Some path → path_alone (cut_path target) ≡ Some path
path_is target path is spelled = ap path_alone (path_lone target (plain_target target path is spelled)) ∙ spelled

text_is : (target : List ℕ) (n : ℕ) (tail : List ℕ) (path : Path) → IsTarget target → IsUnspaced tail → 0 < length tail → property_of target ≡ Some path
    → path_and_text (cut_path (target ++ 32 ∷ (spaces n ++ tail))) ≡ Some (path, tail)
text_is target n tail path is unspaced_tail some spelled =
    ap path_and_text (path_front target n tail (plain_target target path is spelled) unspaced_tail) ∙ with_text target tail path some spelled

spelled_is_read : (line : List ℕ) (c : Command) → list_any is_control line ≡ false → Spells line c → command_of line ≡ Some c
spelled_is_read line (command.Get path) plain (target, two, spelled) =
    by_cut line _ _ plain (cut_two line (codes "get") target two (plain_target target path two.path spelled).word refl (omega arith) (path_word target path spelled))
    (ap (option_map command.Get) (path_is target path two.path spelled))
spelled_is_read line (command.Expression path) plain (target, two, spelled) =
    by_cut line _ _ plain (cut_two line (codes "expr") target two (plain_target target path two.path spelled).word refl (omega arith) (path_word target path spelled))
    (ap (option_map command.Expression) (path_is target path two.path spelled))
spelled_is_read line (command.Edit (SetValue path expr)) plain (target, text, spelled) =
    by_cut line _ _ plain (cut_three line (codes "set") target expr text (plain_target target path text.path spelled).word refl (omega arith) (path_word target path spelled))
    (ap (option_map (λ x. command.Edit (SetValue x.0 x.1))) (text_is target text.further expr path text.path text.unspaced text.some spelled))
spelled_is_read line (command.Edit (Bind path expr)) plain (target, text, spelled) =
    by_cut line _ _ plain (cut_three line (codes "bind") target expr text (plain_target target path text.path spelled).word refl (omega arith) (path_word target path spelled))
    (ap (option_map (λ x. command.Edit (Bind x.0 x.1))) (text_is target text.further expr path text.path text.unspaced text.some spelled))
spelled_is_read line command.Recompute plain one = by_cut line _ _ plain (cut_one line (codes "recompute") one refl) refl
spelled_is_read line (command.Edit edit) plain none = absurd none

-- ---- what is read was spelled

spaces-more : (m n : ℕ) → spaces m ++ spaces n ≡ spaces (m + n)
spaces-more zero n = ap spaces (omega arith)
spaces-more (suc m) n = rw (suc-add) (ap (λ t. 32 ∷ t) (spaces-more m n))

-- a text is its spaces in front and the rest
record HasFront (text rest : List ℕ) : Type 0 where
  count : ℕ
  stands : text ≡ spaces count ++ rest
  front : begins_with_space rest ≡ false

front_of : (text : List ℕ) → HasFront text (after_spaces text)
front_of [] = record { count = 0; stands = refl; front = refl }
front_of (c ∷ cs) =
    elim (c == 32) as (λ b. (c == 32) ≡ b → HasFront (c ∷ cs) (cond b (after_spaces cs) (c ∷ cs))) [
      | true ↦ λ e.
          let later = front_of cs in
          let space = eqb-true c 32 e in
          record { count = suc later.count; stands = ap (λ d. d ∷ cs) space ∙ ap (λ t. 32 ∷ t) later.stands; front = later.front }
      | false ↦ λ e. record { count = 0; stands = refl; front = e }
    ] refl

begins-front : (xs ys : List ℕ) → begins_with_space (xs ++ ys) ≡ false → begins_with_space xs ≡ false
begins-front [] ys e = refl
begins-front (x ∷ xs) ys e = e

-- and it is its spaces at both ends and what is between
record HasEnds (text inner : List ℕ) : Type 0 where
  before : ℕ
  behind : ℕ
  stands : text ≡ spaces before ++ (inner ++ spaces behind)
  is : IsUnspaced inner

ends_of : (text : List ℕ) → HasEnds text (unspaced text)
ends_of text =
    let first = front_of text in
    let last = front_of (reverse (after_spaces text)) in
    let inner : List ℕ = after_spaces (reverse (after_spaces text)) in
    let turned : after_spaces text ≡ reverse inner ++ spaces last.count =
    sym (reverse-reverse (after_spaces text)) ∙ ap reverse last.stands ∙ reverse-append (spaces last.count) inner ∙ ap (λ t. reverse inner ++ t) (reverse-spaces last.count) in
    record {
      before = first.count;
      behind = last.count;
      stands = first.stands ∙ ap (λ t. spaces first.count ++ t) turned;
      is = record {
        front = begins-front (reverse inner) (spaces last.count) (ap begins_with_space (sym turned) ∙ first.front);
        back = ap begins_with_space (reverse-reverse inner) ∙ last.front;
      };
    }

-- a text is one word, or a word, a space and more
record HasSpace (text : List ℕ) : Type 0 where
  word : List ℕ
  rest : List ℕ
  stands : text ≡ word ++ 32 ∷ rest
  is : IsWord word

space_of : (text : List ℕ) → IsWord text ⊎ HasSpace text
space_of [] = inl refl
space_of (c ∷ cs) =
    elim (c == 32) as (λ b. (c == 32) ≡ b → IsWord (c ∷ cs) ⊎ HasSpace (c ∷ cs)) [
      | true ↦ λ e. inr (record { word = []; rest = cs; stands = ap (λ d. d ∷ cs) (eqb-true c 32 e); is = refl })
      | false ↦ λ e. elim (space_of cs) [
        | inl word ↦ inl (rw (e, word) refl)
        | inr has ↦ inr (record { word = c ∷ has.word; rest = has.rest; stands = ap (λ t. c ∷ t) has.stands; is = rw (e, has.is) refl })
      ]
    ] refl

-- a text that is cut behind its first word
pub record IsCut (text first rest : List ℕ) : Type 0 where
  pub between : ℕ
  pub behind : ℕ
  pub stands : text ≡ first ++ 32 ∷ (spaces between ++ (rest ++ spaces behind))
  word : IsWord first
  is : IsUnspaced rest

pub record IsLone (text : List ℕ) : Type 0 where
  word : IsWord text
  pub first : first_word text ≡ text
  nothing : behind_word text ≡ []

pub cut_of : (text : List ℕ) → IsLone text ⊎ IsCut text (first_word text) (behind_word text)
cut_of text = elim (space_of text) [
  | inl word ↦ inl (record { word = word; first = first_word-word text word; nothing = behind_word-word text word })
  | inr has ↦
      let ends = ends_of has.rest in
      let first : has.word ≡ first_word text = sym (first_word-append has.word has.rest has.is) ∙ ap first_word (sym has.stands) in
      let later : unspaced has.rest ≡ behind_word text = sym (behind_word-append has.word has.rest has.is) ∙ ap behind_word (sym has.stands) in
      inr (record {
        between = ends.before;
        behind = ends.behind;
        stands = has.stands ∙ ap (λ t. has.word ++ 32 ∷ t) ends.stands
            ∙ ap (λ (t : List ℕ). has.word ++ 32 ∷ (spaces ends.before ++ (t ++ spaces ends.behind))) later
            ∙ ap (λ (w : List ℕ). w ++ 32 ∷ (spaces ends.before ++ (behind_word text ++ spaces ends.behind))) first;
        word = subst IsWord first has.is;
        is = subst IsUnspaced later ends.is;
      })
]

-- the first word is one
first_is_word : (text : List ℕ) → IsWord (first_word text)
first_is_word text = elim (cut_of text) [
  | inl lone ↦ subst IsWord (sym lone.first) lone.word
  | inr cut ↦ cut.word
]

regroup_one : (a w b c d : List ℕ) → a ++ ((w ++ 32 ∷ (b ++ c)) ++ d) ≡ a ++ (w ++ 32 ∷ (b ++ (c ++ d)))
regroup_one a w b c d = simp append_assoc

regroup_two : (a w b t c d : List ℕ) → a ++ ((w ++ 32 ∷ (b ++ (t ++ c))) ++ d) ≡ a ++ (w ++ 32 ∷ (b ++ (t ++ (c ++ d))))
regroup_two a w b t c d = simp append_assoc

regroup_three : (a w b t m x c d e : List ℕ) → a ++ ((w ++ 32 ∷ (b ++ ((t ++ 32 ∷ (m ++ (x ++ c))) ++ d))) ++ e) ≡ a ++ (w ++ 32 ∷ (b ++ (t ++ 32 ∷ (m ++ (x ++ (c ++ (d ++ e)))))))
regroup_three a w b t m x c d e = simp append_assoc

spaces-three : (m n k : ℕ) → spaces m ++ (spaces n ++ spaces k) ≡ spaces (m + (n + k))
spaces-three m n k = ap (λ t. spaces m ++ t) (spaces-more n k) ∙ spaces-more m (n + k)

regroup_tail : (t a b : List ℕ) → (t ++ a) ++ b ≡ t ++ (a ++ b)
regroup_tail t a b = append_assoc t a b

module _ (line : List ℕ) where
  abbrev core : List ℕ
  core = unspaced line

  abbrev verb : List ℕ
  verb = first_word core

  abbrev rest : List ℕ
  rest = behind_word core

  abbrev target : List ℕ
  target = first_word rest

  abbrev tail : List ℕ
  tail = behind_word rest

  -- nothing behind the verb
  was_one : rest ≡ [] → IsOneWord line verb
  was_one none =
      let ends = ends_of line in
      elim (cut_of core) [
        | inl lone ↦ record { before = ends.before; behind = ends.behind; text = ends.stands ∙ ap (λ t. spaces ends.before ++ (t ++ spaces ends.behind)) (sym lone.first) }
        | inr cut ↦ record {
          before = ends.before;
          behind = suc (cut.between + (cut.behind + ends.behind));
          text = ends.stands
              ∙ ap (λ t. spaces ends.before ++ (t ++ spaces ends.behind)) (cut.stands ∙ ap (λ (t : List ℕ). verb ++ 32 ∷ (spaces cut.between ++ (t ++ spaces cut.behind))) none)
              ∙ regroup_one (spaces ends.before) verb (spaces cut.between) (spaces cut.behind) (spaces ends.behind)
              ∙ ap (λ t. spaces ends.before ++ (verb ++ 32 ∷ t)) (spaces-three cut.between cut.behind ends.behind);
        }
      ]

  -- a path, with spaces alone behind it
  two_words : IsCut core verb rest → (k : ℕ) → rest ≡ target ++ spaces k → IsTarget target → IsWordAndPath line verb target
  two_words cut k stands path =
      let ends = ends_of line in
      record {
        before = ends.before;
        between = cut.between;
        behind = k + (cut.behind + ends.behind);
        text = ends.stands
            ∙ ap (λ t. spaces ends.before ++ (t ++ spaces ends.behind)) cut.stands
            ∙ regroup_two (spaces ends.before) verb (spaces cut.between) rest (spaces cut.behind) (spaces ends.behind)
            ∙ ap (λ (t : List ℕ). spaces ends.before ++ (verb ++ 32 ∷ (spaces cut.between ++ t)))
            (ap (λ (t : List ℕ). t ++ (spaces cut.behind ++ spaces ends.behind)) stands ∙ regroup_tail target (spaces k) (spaces cut.behind ++ spaces ends.behind)
            ∙ ap (λ t. target ++ t) (spaces-three k cut.behind ends.behind));
        path = path;
      }

  was_two : IsTarget target → 0 < length target → tail ≡ [] → IsWordAndPath line verb target
  was_two path some none = elim (cut_of core) [
    | inl lone ↦ let nothing = ap (λ (t : List ℕ). length (first_word t)) lone.nothing in absurd (omega arith)
    | inr cut ↦ elim (cut_of rest) [
      | inl lone ↦ two_words cut 0 (sym lone.first ∙ sym (append-nil target)) path
      | inr more ↦
          two_words cut (suc (more.between + more.behind))
          (more.stands ∙ ap (λ (t : List ℕ). target ++ 32 ∷ (spaces more.between ++ (t ++ spaces more.behind))) none ∙ ap (λ t. target ++ 32 ∷ t) (spaces-more more.between more.behind)) path
    ]
  ]

  -- a text behind the path
  was_three : IsTarget target → 0 < length tail → IsPathAndText line verb target tail
  was_three path some = elim (cut_of core) [
    | inl lone ↦ let nothing = ap (λ (t : List ℕ). length (behind_word t)) lone.nothing in absurd (omega arith)
    | inr cut ↦ elim (cut_of rest) [
      | inl lone ↦ let nothing = ap (λ (t : List ℕ). length t) lone.nothing in absurd (omega arith)
      | inr more ↦
          let ends = ends_of line in
          record {
            before = ends.before;
            between = cut.between;
            further = more.between;
            behind = more.behind + (cut.behind + ends.behind);
            text = ends.stands
                ∙ ap (λ t. spaces ends.before ++ (t ++ spaces ends.behind))
                (cut.stands ∙ ap (λ (t : List ℕ). verb ++ 32 ∷ (spaces cut.between ++ (t ++ spaces cut.behind))) more.stands)
                ∙ regroup_three (spaces ends.before) verb (spaces cut.between) target (spaces more.between) tail (spaces more.behind) (spaces cut.behind) (spaces ends.behind)
                ∙ ap (λ t. spaces ends.before ++ (verb ++ 32 ∷ (spaces cut.between ++ (target ++ 32 ∷ (spaces more.between ++ (tail ++ t))))))
                (spaces-three more.behind cut.behind ends.behind);
            path = path;
            unspaced = more.is;
            some = some;
          }
    ]
  ]

pub chosen : {A : Type 0} (b : Bool) (x y z : A) → cond b x y ≡ z → ((b ≡ true) × (x ≡ z)) ⊎ ((b ≡ false) × (y ≡ z))
chosen true x y z e = inl (refl, e)
chosen false x y z e = inr (refl, e)

pub map_some : {A B : Type 0} (f : A → B) (o : Option A) (y : B) → option_map f o ≡ Some y → (x : A) × (o ≡ Some x) × (f x ≡ y)
map_some f None y e = absurd (cc)
map_some f (Some x) y e = (x, refl, cc)

empty_is : (text : List ℕ) → is_empty text ≡ true → text ≡ []
empty_is [] e = refl
empty_is (c ∷ cs) e = absurd (cc)

filled_is : (text : List ℕ) → is_empty text ≡ false → 0 < length text
filled_is [] e = absurd (cc)
filled_is (c ∷ cs) e = omega arith

-- a path alone
alone : (line : List ℕ) (word : List ℕ) (path : Path) → verb line ≡ word → path_alone (cut_path (rest line)) ≡ Some path
    → (t : List ℕ) × IsWordAndPath line word t × (property_of t ≡ Some path)
alone line word path is e = elim (chosen (is_empty (cut_path (rest line)).rest) (property_of (cut_path (rest line)).first) None (Some path) e) [
  | inl nothing ↦
      let cut = cut_path-word (rest line) path nothing.1 in
      let found : property_of (target line) ≡ Some path = subst (λ (c : Cut). property_of c.first ≡ Some path) cut nothing.1 in
      let none : tail line ≡ [] = subst (λ (c : Cut). c.rest ≡ []) cut (empty_is (cut_path (rest line)).rest nothing.0) in
      let is_target = word_target (target line) path (first_is_word (rest line)) found in
      (target line, subst (λ (w : List ℕ). IsWordAndPath line w (target line)) is (was_two line is_target (path_word (target line) path found) none), found)
  | inr more ↦ let no = more.1 in absurd (cc)
]

-- a path and a text
and_text : (line : List ℕ) (word : List ℕ) (x : Path × List ℕ) → verb line ≡ word → path_and_text (cut_path (rest line)) ≡ Some x
    → (t : List ℕ) × IsPathAndText line word t x.1 × (property_of t ≡ Some x.0)
and_text line word x is e =
    let c : Cut = cut_path (rest line) in
    elim (chosen (is_empty c.rest) None (option_map (λ path. (path, c.rest)) (property_of c.first)) (Some x) e) [
      | inl nothing ↦ let no = nothing.1 in absurd (cc)
      | inr more ↦
          let made = map_some (λ path. (path, c.rest)) (property_of c.first) x more.1 in
          let cut = cut_path-word (rest line) made.0 made.1 in
          let found : property_of (target line) ≡ Some made.0 = subst (λ (d : Cut). property_of d.first ≡ Some made.0) cut made.1 in
          let some : 0 < length (tail line) = subst (λ (d : Cut). 0 < length d.rest) cut (filled_is c.rest more.0) in
          let same : (made.0, tail line) ≡ x = subst (λ (d : Cut). (made.0, d.rest) ≡ x) cut made.2 in
          let is_target = word_target (target line) made.0 (first_is_word (rest line)) found in
          subst (λ (y : Path × List ℕ). (t : List ℕ) × IsPathAndText line word t y.1 × (property_of t ≡ Some y.0)) same
          (target line, subst (λ (w : List ℕ). IsPathAndText line w (target line) (tail line)) is (was_three line is_target some), found)
    ]

word_is : (text word : List ℕ) → bytes_eq text word ≡ true → text ≡ word
word_is text word e = (bytes_eq-Decides text word).0 e

was_get : (line : List ℕ) (c : Command) → bytes_eq (verb line) (codes "get") ≡ true → get_of (rest line) ≡ Some c → Spells line c
was_get line c is e =
    let found = map_some command.Get (path_alone (cut_path (rest line))) c e in
    subst (Spells line) found.2 (alone line (codes "get") found.0 (word_is (verb line) (codes "get") is) found.1)

was_expression : (line : List ℕ) (c : Command) → bytes_eq (verb line) (codes "expr") ≡ true → expression_of (rest line) ≡ Some c → Spells line c
was_expression line c is e =
    let found = map_some command.Expression (path_alone (cut_path (rest line))) c e in
    subst (Spells line) found.2 (alone line (codes "expr") found.0 (word_is (verb line) (codes "expr") is) found.1)

was_set : (line : List ℕ) (c : Command) → bytes_eq (verb line) (codes "set") ≡ true → set_of (rest line) ≡ Some c → Spells line c
was_set line c is e =
    let found = map_some (λ (x : Path × List ℕ). command.Edit (SetValue x.0 x.1)) (path_and_text (cut_path (rest line))) c e in
    subst (Spells line) found.2 (and_text line (codes "set") found.0 (word_is (verb line) (codes "set") is) found.1)

was_bind : (line : List ℕ) (c : Command) → bytes_eq (verb line) (codes "bind") ≡ true → bind_of (rest line) ≡ Some c → Spells line c
was_bind line c is e =
    let found = map_some (λ (x : Path × List ℕ). command.Edit (Bind x.0 x.1)) (path_and_text (cut_path (rest line))) c e in
    subst (Spells line) found.2 (and_text line (codes "bind") found.0 (word_is (verb line) (codes "bind") is) found.1)

was_recompute : (line : List ℕ) (c : Command) → bytes_eq (verb line) (codes "recompute") ≡ true → recompute_of (rest line) ≡ Some c → Spells line c
was_recompute line c is e = elim (chosen (is_empty (rest line)) (Some command.Recompute) None (Some c) e) [
  | inl found ↦
      let same : command.Recompute ≡ c = let made = found.1 in cc in
      subst (Spells line) same (subst (IsOneWord line) (word_is (verb line) (codes "recompute") is) (was_one line (empty_is (rest line) found.0)))
  | inr other ↦ let none = other.1 in absurd (cc)
]

read_was_spelled : (line : List ℕ) (c : Command) → command_of line ≡ Some c → Spells line c
read_was_spelled line c e =
    let cut : Cut = cut_word (unspaced line) in
    elim (chosen (list_any is_control line) None (command_of_cut cut) (Some c) e) [
      | inl control ↦ let none = control.1 in absurd (cc)
      | inr plain ↦ elim (chosen (bytes_eq cut.first (codes "get")) (get_of cut.rest) _ (Some c) plain.1) [
        | inl is ↦ was_get line c is.0 is.1
        | inr more ↦ elim (chosen (bytes_eq cut.first (codes "expr")) (expression_of cut.rest) _ (Some c) more.1) [
          | inl is ↦ was_expression line c is.0 is.1
          | inr more2 ↦ elim (chosen (bytes_eq cut.first (codes "set")) (set_of cut.rest) _ (Some c) more2.1) [
            | inl is ↦ was_set line c is.0 is.1
            | inr more3 ↦ elim (chosen (bytes_eq cut.first (codes "bind")) (bind_of cut.rest) _ (Some c) more3.1) [
              | inl is ↦ was_bind line c is.0 is.1
              | inr more4 ↦ elim (chosen (bytes_eq cut.first (codes "recompute")) (recompute_of cut.rest) None (Some c) more4.1) [
                | inl is ↦ was_recompute line c is.0 is.1
                | inr none ↦ let no = none.1 in absurd (cc)
              ]
            ]
          ]
        ]
      ]
    ]

-- ---- both ways

pub line_is_read : (line : List ℕ) (c : Command) → IsLineOf line c → command_of line ≡ Some c
line_is_read line c is = spelled_is_read line c is.plain is.spelled

pub read_is_line : (line : List ℕ) (c : Command) → command_of line ≡ Some c → IsLineOf line c
read_is_line line c e = elim (chosen (list_any is_control line) None (command_of_cut (cut_word (unspaced line))) (Some c) e) [
  | inl control ↦ let none = control.1 in absurd (cc)
  | inr plain ↦ record { plain = plain.0; spelled = read_was_spelled line c e }
]

-- what a call tells of a line
pub told_is_line : (line : List ℕ) (r : Result Command CommandFault) → Reads (command_of line) r → IfOk r (λ c. IsLineOf line c)
told_is_line line (Ok c) reads = read_is_line line c reads
told_is_line line (Err fault) reads = tt

pub not_built_is_none : (line : List ℕ) (r : Result Command CommandFault) → Reads (command_of line) r → IsErrOf r NotBuilt → (c : Command) → IsLineOf line c → ⊥
not_built_is_none line (Ok told) reads is c spelled = absurd (cc)
not_built_is_none line (Err NotBuilt) reads is c spelled = let found = line_is_read line c spelled in absurd (cc)
not_built_is_none line (Err (Memory e)) reads is c spelled = absurd (cc)
