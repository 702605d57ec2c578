use Rattle.std.proofs.Common.{rules, ◌≡◌, ◌-◌, ◌<◌, ℕ, suc, length, None, Some, sym, ap, ◌∙◌, arith}
use Rattle.std.specs.Option.{option_map}
use Rattle.fcxml_profile.specs.Items.{item_at}
use Rattle.fcxml_profile.specs.Standing.{at_start, standing_item}
use Rattle.fcxml_profile.specs.Scanning.{items_standing, examined, fault_of}
use Rattle.fcxml_profile.specs.Told.{cut_told}
use Rattle.fcxml_profile.proofs.Shorter.{item_at-shorter}
use Rattle.fcxml_profile.proofs.ScanLemmas.{standing_parts, examined-more, examined-end, behind-told}
use Rattle.fcxml_profile.proofs.examining.examine.Goals as goal
use Rattle.fcxml_profile.proofs.examining.examine.Goals.{In_ok-pass}

-- the item that the loop has stands in front of what is left
found : (c : In_ok-pass) → standing_item c.loop-elements.elements (item_at c.args.size c.loop-elements.rest.now) ≡ Some (cut_told c.args.size (c.in-Some.item, c.in-Some.after))
found c = sym c.in_ok-item.ensures ∙ ap (option_map (cut_told c.args.size)) c.in-Some.is

shorter : (c : In_ok-pass) → length c.in-Some.after.now < length c.loop-elements.rest.now
shorter c = item_at-shorter c.args.size c.loop-elements.rest.now (cut_told c.args.size (c.in-Some.item, c.in-Some.after))
    (standing_parts c.loop-elements.elements (item_at c.args.size c.loop-elements.rest.now) (cut_told c.args.size (c.in-Some.item, c.in-Some.after)) (found c)).0

-- the item that the loop has is counted
step : (c : In_ok-pass) → examined c.loop-elements.elements c.args.size c.loop-elements.rest.now
    ≡ (suc (length (items_standing c.pass.new.self c.args.size c.in-Some.after.now)), fault_of c.pass.new.self c.args.size c.in-Some.after.now)
step c =
    let told = cut_told c.args.size (c.in-Some.item, c.in-Some.after) in
    let same = behind-told c.loop-elements.elements c.args.size c.in-Some.item (c.args.size - length c.in-Some.after.now) ∙ sym (c.in_ok-pass.ensures c.args.size) in
    examined-more c.loop-elements.elements c.args.size c.loop-elements.rest.now told (found c)
    ∙ ap (λ s. (suc (length (items_standing s c.args.size c.in-Some.after.now)), fault_of s c.args.size c.in-Some.after.now)) same

pub loop-elements-smaller : goal.loop-elements-smaller
loop-elements-smaller c = shorter c

pub loop-elements-preserved : goal.loop-elements-preserved
loop-elements-preserved c =
    let size = ap (λ p. p.0) (step c) in
    let so_far = c.loop-elements.invariant.count in
    let most = c.loop-elements.invariant.within in
    let less = shorter c in
    record {
      text = search rules;
      count = omega arith;
      fault = sym (ap (λ p. p.1) (step c)) ∙ c.loop-elements.invariant.fault;
      within = omega arith;
    }

pair_is : {X : Type 0} (n : ℕ) (x : X) (p : ℕ × X) → n ≡ p.0 → x ≡ p.1 → (n, x) ≡ p
pair_is n x p e f = ap (λ m. (m, x)) e ∙ ap (λ y. (p.0, y)) f

pub returns-clause-exact : goal.returns-clause-exact
returns-clause-exact c =
    let none : standing_item c.loop-elements.elements (item_at c.args.size c.loop-elements.rest.now) ≡ None =
    sym c.in_ok-item.ensures ∙ ap (option_map (cut_told c.args.size)) c.in_default.is in
    let end = examined-end c.loop-elements.elements c.args.size c.loop-elements.rest.now none in
    let size = ap (λ p. p.0) end in
    let so_far = c.loop-elements.invariant.count in
    pair_is c.loop-elements.count c.in_ok-fault.fault (examined at_start c.args.size c.args.text.now) (omega arith)
    (c.in_ok-fault.ensures ∙ sym (ap (λ p. p.1) end) ∙ c.loop-elements.invariant.fault)
