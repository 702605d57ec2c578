use Rattle.std.proofs.Common.{◌≡◌, ◌-◌, ◌++◌, length, take, sym, ap, ◌∙◌, subst, arith}
use Rattle.fcxml_profile.specs.Items.{items_at}
use Rattle.fcxml_profile.specs.Told.{cut_told}
use Rattle.fcxml_profile.specs.Scanning.{Scan, token_of, tokens_of}
use Rattle.fcxml_profile.specs.Reading.{last_told, scan_of_reading, IsBalanced}
use Rattle.fcxml_profile.specs.Answers.{GivesToken, OkGives}
use Rattle.std.specs.Option.{option_map}
use Rattle.fcxml_profile.proofs.ReadingLemmas.{tokens-step, whole-step}
use Rattle.fcxml_profile.proofs.BalanceLemmas.{balanced-item, item-given, no-token}
use Rattle.fcxml_profile.proofs.reading.Reading.next.Goals as goal

pub returns-in-Some-clause-gives : goal.returns-in-Some-clause-gives
returns-in-Some-clause-gives c =
    let r = c.loop-self.self in
    let before = scan_of_reading c.args.size c.args.self.now in
    let found = cut_told c.args.size c.front.result in
    let later = tokens_of (take (r.left - 1) (items_at c.args.size found.1)) in
    let last = option_map last_told c.last_of-last.result in
    let tokens = sym (ap (λ (x : Scan). x.tokens) c.loop-self.invariant.same) ∙ tokens-step c.args.size r.left r.rest.now found c.loop-self-test.true c.front.ensures in
    let given = subst (λ t. GivesToken t (token_of found.0)) c.in-Some.is (c.in_ok-token.ensures (c.args.size - length c.front.result.1.now)) in
    let after : Scan = record { last = last; tokens = later; fault = r.fault; failed = r.failed } in
    let left : after ≡ record { last = last; tokens = later; fault = before.fault; failed = before.failed } =
    ap (λ (x : Scan). record { last = last; tokens = later; fault = x.fault; failed = x.failed }) c.loop-self.invariant.same in
    subst (λ t. OkGives t before c.in-Some.token after) (sym tokens) (item-given before found.0 c.in-Some.token later last after given c.last_of-last.ensures left)

pub returns-in-Some-clause-sound : goal.returns-in-Some-clause-sound
returns-in-Some-clause-sound c =
    let r = c.loop-self.self in
    let before = scan_of_reading c.args.size c.args.self.now in
    let found = cut_told c.args.size c.front.result in
    let later = tokens_of (take (r.left - 1) (items_at c.args.size found.1)) in
    let last = option_map last_told c.last_of-last.result in
    let tokens = sym (ap (λ (x : Scan). x.tokens) c.loop-self.invariant.same) ∙ tokens-step c.args.size r.left r.rest.now found c.loop-self-test.true c.front.ensures in
    let given = subst (λ t. GivesToken t (token_of found.0)) c.in-Some.is (c.in_ok-token.ensures (c.args.size - length c.front.result.1.now)) in
    let after : Scan = record { last = last; tokens = later; fault = r.fault; failed = r.failed } in
    let left : after ≡ record { last = last; tokens = later; fault = before.fault; failed = before.failed } =
    ap (λ (x : Scan). record { last = last; tokens = later; fault = x.fault; failed = x.failed }) c.loop-self.invariant.same in
    record {
      whole = whole-step c.args.size r.left r.rest.now found c.loop-self-test.true c.loop-self.invariant.whole c.front.ensures;
      small = omega (arith, c.requires.small, c.loop-self.invariant.less);
      failed = λ f. absurd (let none = c.requires.failed (sym (ap (λ (x : Scan). x.failed) c.loop-self.invariant.same) ∙ f) in omega (arith, none.0, c.loop-self.invariant.less, c.loop-self-test.true));
      balanced = subst IsBalanced (sym left) (balanced-item before found.0 c.in-Some.token later last given c.last_of-last.ensures tokens c.requires.balanced);
    }

pub loop-self-preserved : goal.loop-self-preserved
loop-self-preserved c =
    let s = c.loop-self.self in
    let found = cut_told c.args.size c.front.result in
    let none = no-token (token_of found.0) (subst (λ t. GivesToken t (token_of found.0)) c.in_default.is (c.in_ok-token.ensures (c.args.size - length c.front.result.1.now))) in
    let step = tokens-step c.args.size s.left s.rest.now found c.loop-self-test.true c.front.ensures in
    record {
      same = ap (λ tokens. record { last = option_map last_told s.last; tokens = tokens; fault = s.fault; failed = s.failed }) (sym (step ∙ ap (λ x. x ++ tokens_of (take (s.left - 1) (items_at c.args.size found.1))) none)) ∙ c.loop-self.invariant.same;
      less = omega (arith, c.loop-self.invariant.less);
      whole = whole-step c.args.size s.left s.rest.now found c.loop-self-test.true c.loop-self.invariant.whole c.front.ensures;
    }
