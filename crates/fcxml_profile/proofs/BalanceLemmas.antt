-- Where no fault comes, the tokens close what is open.
use Rattle.std.proofs.Common.{◌≡◌, ◌<◌, ◌≤◌, ◌+◌, ◌-◌, ℕ, zero, suc, Bool, true, false, cond, Result, Ok, List, [], ◌∷◌, ◌++◌, Option, None, Some, refl, sym, ap, ◌∙◌, subst, arith}
use Rattle.std.specs.Option.{IfSome, IfNone, IsSome}
use Rattle.fcxml_profile.specs.Told.{item_told}
use Rattle.fcxml_profile.specs.declared.items.Item as i
use Rattle.fcxml_profile.specs.declared.items.Item.TheVariants as it
use Rattle.std.proofs.lemmas.Bool.{eqb-true}
use Rattle.fcxml_profile.specs.Items.{Item, declaration, comment, opening, closing, run}
use Rattle.fcxml_profile.specs.Standing.{outer}
use Rattle.fcxml_profile.specs.Scanning.{Token, opened, closed, Scan, Opened, token_of, last_of, depth_behind, end_of_element}
use Rattle.fcxml_profile.specs.Answers.{behind_token, GivesToken, OkGives, TakesElement, TakesLast, ForeignGives}
use Rattle.fcxml_profile.specs.declared.token.Token.{Token as Told}
use Rattle.fcxml_profile.specs.Reading.{closes, IsBalanced}
use Rattle.fcxml_profile.specs.declared.fault.XmlFault.{XmlFault}

if_none : (o : Option XmlFault) (P Q : Type 0) → IfNone o P → (P → Q) → IfNone o Q
if_none None P Q p f = f p
if_none (Some x) P Q p f = tt

closed-part : (depth : ℕ) (fault : Option XmlFault) (failed : Bool) (end : ℕ) (later : List Token) → IfNone fault (closes depth (closed end ∷ later) ≡ true) → IsBalanced (record { last = None; tokens = later; fault = fault; failed = failed })
closed-part zero fault failed end later all = record { depth = 0; closes = if_none fault _ _ all (λ false_. absurd (cc)); inside = tt }
closed-part (suc d) fault failed end later all = record { depth = d; closes = all; inside = tt }

-- behind a token the rest closes the rest
balanced-token : (s : Scan) (token : Token) (later : List Token) → s.tokens ≡ token ∷ later → IsBalanced s → IsBalanced (behind_token token later s)
balanced-token s (opened t) later e b =
    elim t.empty as (λ empty. t.empty ≡ empty → IsBalanced (behind_token (opened t) later s)) [
      | true ↦ λ is. record {
        depth = b.depth;
        closes = if_none s.fault _ _ b.closes (λ all. ap (λ d. closes d later) (ap (λ c. cond c b.depth (suc b.depth)) (sym is)) ∙ sym (ap (closes b.depth) e) ∙ all);
        inside = λ other. absurd (cc);
      }
      | false ↦ λ is. record {
        depth = suc b.depth;
        closes = if_none s.fault _ _ b.closes (λ all. ap (λ d. closes d later) (ap (λ c. cond c b.depth (suc b.depth)) (sym is)) ∙ sym (ap (closes b.depth) e) ∙ all);
        inside = λ _. omega arith;
      }
    ] refl
balanced-token s (closed end) later e b = closed-part b.depth s.fault s.failed end later (if_none s.fault _ _ b.closes (λ all. sym (ap (closes b.depth) e) ∙ all))

-- the same of the item that the token is of
pub balanced-item : (s : Scan) (item : Item) (told : Told) (later : List Token) (last : Option Opened) → GivesToken (Some told) (token_of item) → last ≡ last_of item → s.tokens ≡ token_of item ++ later
    → IsBalanced s → IsBalanced (record { last = last; tokens = later; fault = s.fault; failed = s.failed })
balanced-item s declaration told later last gives is e b = absurd gives
balanced-item s comment told later last gives is e b = absurd gives
balanced-item s (opening t) told later last gives is e b =
    subst (λ l. IsBalanced (record { last = l; tokens = later; fault = s.fault; failed = s.failed })) (sym is) (balanced-token s (opened t) later e b)
balanced-item s (closing name end) told later last gives is e b =
    subst (λ l. IsBalanced (record { last = l; tokens = later; fault = s.fault; failed = s.failed })) (sym is) (balanced-token s (closed end) later e b)
balanced-item s (run text) told later last gives is e b = absurd gives

-- the token of an item is the next one, and what it leaves
pub item-given : (before : Scan) (item : Item) (told : Told) (later : List Token) (last : Option Opened) (left : Scan) → GivesToken (Some told) (token_of item) → last ≡ last_of item
    → left ≡ record { last = last; tokens = later; fault = before.fault; failed = before.failed } → OkGives (token_of item ++ later) before told left
item-given before declaration told later last left gives is l = absurd gives
item-given before comment told later last left gives is l = absurd gives
item-given before (opening t) told later last left gives is l = (gives, l ∙ ap (λ x. record { last = x; tokens = later; fault = before.fault; failed = before.failed }) is)
item-given before (closing name end) told later last left gives is l = (gives, l ∙ ap (λ x. record { last = x; tokens = later; fault = before.fault; failed = before.failed }) is)
item-given before (run text) told later last left gives is l = absurd gives

-- an item that gives no token
pub no-token : (tokens : List Token) → GivesToken None tokens → tokens ≡ []
no-token [] gives = refl
no-token (token ∷ later) gives = absurd gives

-- ---- the end of an element

some_is : (m d : ℕ) → Some m ≡ Some d → m ≡ d
some_is m d e = cc

pub end-more : (depth d : ℕ) (item : Item) (later : List Token) → depth_behind depth item ≡ Some d → end_of_element depth (token_of item ++ later) ≡ end_of_element d later
end-more depth d declaration later e = ap (λ k. end_of_element k later) (some_is depth d e)
end-more depth d comment later e = ap (λ k. end_of_element k later) (some_is depth d e)
end-more depth d (opening t) later e = ap (λ k. end_of_element k later) (some_is (cond t.empty depth (suc depth)) d e)
end-more zero d (closing name end) later e = absurd (cc)
end-more (suc depth) d (closing name end) later e = ap (λ k. end_of_element k later) (some_is depth d e)
end-more depth d (run text) later e = ap (λ k. end_of_element k later) (some_is depth d e)

pub end-here : (depth n : ℕ) (item : i.Item) (end : ℕ) (later : List Token) → depth_behind depth (item_told n item end) ≡ None → end_of_element depth (token_of (item_told n item end) ++ later) ≡ Some (end, later)
end-here depth n it.Declaration end later e = absurd (cc)
end-here depth n it.Comment end later e = absurd (cc)
end-here depth n (it.Opening t) end later e = absurd (cc)
end-here zero n (it.Closing name) end later e = refl
end-here (suc depth) n (it.Closing name) end later e = absurd (cc)
end-here depth n (it.Run text) end later e = absurd (cc)

closes-more : (depth outer d : ℕ) (item : Item) (later : List Token) → depth_behind depth item ≡ Some d → closes (suc (depth + outer)) (token_of item ++ later) ≡ true → closes (suc (d + outer)) later ≡ true
closes-more depth outer d declaration later e all = subst (λ k. closes (suc (k + outer)) later ≡ true) (some_is depth d e) all
closes-more depth outer d comment later e all = subst (λ k. closes (suc (k + outer)) later ≡ true) (some_is depth d e) all
closes-more depth outer d (opening t) later e all =
    elim t.empty as (λ b. Some (cond b depth (suc depth)) ≡ Some d → closes (cond b (suc (depth + outer)) (suc (suc (depth + outer)))) later ≡ true → closes (suc (d + outer)) later ≡ true) [
      | true ↦ λ e' all'. subst (λ k. closes (suc (k + outer)) later ≡ true) (some_is depth d e') all'
      | false ↦ λ e' all'. subst (λ k. closes k later ≡ true) (let same = some_is (suc depth) d e' in omega arith) all'
    ] e all
closes-more zero outer d (closing name end) later e all = absurd (cc)
closes-more (suc depth) outer d (closing name end) later e all =
    subst (λ k. closes k later ≡ true) (let same = some_is depth d e in omega arith) all
closes-more depth outer d (run text) later e all = subst (λ k. closes (suc (k + outer)) later ≡ true) (some_is depth d e) all

-- the elements that are open behind an item are closed by the tokens behind it
pub inside-more : (fault : Option XmlFault) (depth outer d : ℕ) (item : Item) (later : List Token) → depth_behind depth item ≡ Some d → IfNone fault (closes (suc (depth + outer)) (token_of item ++ later) ≡ true)
    → IfNone fault (closes (suc (d + outer)) later ≡ true)
inside-more fault depth outer d item later e all = if_none fault _ _ all (λ one. closes-more depth outer d item later e one)

-- behind the end of an element the rest closes the rest
pub inside-end : (fault : Option XmlFault) (failed : Bool) (depth n outer : ℕ) (item : i.Item) (end : ℕ) (later : List Token) → depth_behind depth (item_told n item end) ≡ None
    → IfNone fault (closes (suc (depth + outer)) (token_of (item_told n item end) ++ later) ≡ true) → IsBalanced (record { last = None; tokens = later; fault = fault; failed = failed })
inside-end fault failed depth n outer it.Declaration end later e all = absurd (cc)
inside-end fault failed depth n outer it.Comment end later e all = absurd (cc)
inside-end fault failed depth n outer (it.Opening t) end later e all = absurd (cc)
inside-end fault failed zero n outer (it.Closing name) end later e all = record { depth = outer; closes = if_none fault _ _ all (λ one. subst (λ k. closes k later ≡ true) (omega arith) one); inside = tt }
inside-end fault failed (suc depth) n outer (it.Closing name) end later e all = absurd (cc)
inside-end fault failed depth n outer (it.Run text) end later e all = absurd (cc)

-- an element that is open is not closed by nothing
pub inside-none : (fault : Option XmlFault) (depth : ℕ) → IfNone fault (closes (suc depth) [] ≡ true) → IsSome fault
inside-none None depth all = absurd (let zero_ = eqb-true (suc depth) 0 all in omega arith)
inside-none (Some fault) depth all = refl

-- one element at least is open behind its tag
pub inside-first : (s : Scan) (o : Opened) → s.last ≡ Some o → o.empty ≡ false → IsBalanced s → (outer : ℕ) × IfNone s.fault (closes (suc (0 + outer)) s.tokens ≡ true)
inside-first s o e not_empty b =
    let some : 0 < b.depth = subst (λ l. IfSome l (λ o. o.empty ≡ false → 0 < b.depth)) e b.inside not_empty in
    (b.depth - 1, subst (λ d. IfNone s.fault (closes d s.tokens ≡ true)) (omega arith) b.closes)

-- behind a fault nothing is left to close
pub balanced-fault : (fault : Option XmlFault) (failed : Bool) → IsSome fault → IsBalanced (record { last = None; tokens = []; fault = fault; failed = failed })
balanced-fault None failed some = absurd (let none : false ≡ true = some in cc)
balanced-fault (Some fault) failed some = record { depth = 0; closes = tt; inside = tt }

pub depth-le : (depth d : ℕ) (item : Item) → depth_behind depth item ≡ Some d → d ≤ depth + 1
depth-le depth d declaration e = let same = some_is depth d e in omega arith
depth-le depth d comment e = let same = some_is depth d e in omega arith
depth-le depth d (opening t) e = elim t.empty as (λ b. Some (cond b depth (suc depth)) ≡ Some d → d ≤ depth + 1) [
  | true ↦ λ e'. let same = some_is depth d e' in omega arith
  | false ↦ λ e'. let same = some_is (suc depth) d e' in omega arith
] e
depth-le zero d (closing name end) e = absurd (cc)
depth-le (suc depth) d (closing name end) e = let same = some_is depth d e in omega arith
depth-le depth d (run text) e = let same = some_is depth d e in omega arith

-- an element that ends is what is taken
pub takes-element : (before : Scan) (o : Opened) (later : List Token) (end : ℕ) (result : Result (ℕ × ℕ) XmlFault) (left : Scan) → before.last ≡ Some o → o.empty ≡ false
    → end_of_element 0 before.tokens ≡ Some (end, later) → result ≡ Ok (o.place, end) → left ≡ record { last = None; tokens = later; fault = before.fault; failed = before.failed } → ForeignGives before result left
takes-element before o later end result left last is_open e r l =
    subst (λ x. TakesLast x before result left) (sym last)
    (subst (λ x. TakesElement o x before result left) (sym (ap (λ b. cond b (Some (o.end, before.tokens)) (end_of_element 0 before.tokens)) is_open ∙ e)) (r, l))
