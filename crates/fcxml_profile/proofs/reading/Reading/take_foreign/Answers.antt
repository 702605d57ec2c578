use Rattle.std.proofs.Common.{◌≡◌, ◌+◌, ◌-◌, ℕ, suc, true, Option, None, Ok, length, take, refl, sym, ap, ◌∙◌, subst, arith}
use Rattle.std.specs.Option.{option_map, IfNone}
use Rattle.fcxml_profile.specs.Items.{items_at}
use Rattle.fcxml_profile.specs.Told.{cut_told}
use Rattle.fcxml_profile.specs.Scanning.{tokens_of, end_of_element}
use Rattle.fcxml_profile.specs.Reading.{closes, last_told, scan_of_reading, IsBalanced}
use Rattle.fcxml_profile.specs.declared.fault.XmlFault.{XmlFault}
use Rattle.fcxml_profile.proofs.ReadingLemmas.{tokens-step, whole-step}
use Rattle.fcxml_profile.proofs.BalanceLemmas.{end-more, end-here, inside-more, inside-end, inside-first, depth-le, takes-element}
use Rattle.fcxml_profile.proofs.reading.Reading.take_foreign.Goals as goal

pub loop-self-init : goal.loop-self-init
loop-self-init c = record {
  same = refl;
  fault = refl;
  failed = refl;
  last = refl;
  whole = c.requires.sound.whole;
  inside = inside-first (scan_of_reading c.args.size c.args.self.now) (last_told c.in-Some.last) (ap (option_map last_told) c.in-Some.is) c.if-last.false c.requires.sound.balanced;
  fits = omega arith;
}

pub depth_behind-requires : goal.depth_behind-requires
depth_behind-requires c = omega (arith, c.requires.sound.small, c.loop-self.invariant.fits, c.loop-self-test.true)

pub loop-self-preserved : goal.loop-self-preserved
loop-self-preserved c =
    let s = c.loop-self.self in
    let i = c.loop-self.invariant in
    let depth = c.loop-self.depth in
    let found = cut_told c.args.size c.front.result in
    let later = tokens_of (take (s.left - 1) (items_at c.args.size found.1)) in
    let step = tokens-step c.args.size s.left s.rest.now found c.loop-self-test.true c.front.ensures in
    let behind = sym (c.depth_behind.ensures c.args.size (c.args.size - length c.front.result.1.now)) ∙ c.in-Some-depth_behind.is in
    let d = c.in-Some-depth_behind.inside in
    record {
      same = sym (end-more depth d found.0 later behind) ∙ sym (ap (end_of_element depth) step) ∙ i.same;
      fault = i.fault;
      failed = i.failed;
      last = i.last;
      whole = whole-step c.args.size s.left s.rest.now found c.loop-self-test.true i.whole c.front.ensures;
      inside = (i.inside.0, inside-more s.fault depth i.inside.0 d found.0 later behind (subst (λ t. IfNone s.fault (closes (suc (depth + i.inside.0)) t ≡ true)) step i.inside.1));
      fits = omega (arith, depth-le depth d found.0 behind, i.fits, c.loop-self-test.true);
    }

pub returns-in-None-clause-gives : goal.returns-in-None-clause-gives
returns-in-None-clause-gives c =
    let s = c.loop-self.self in
    let i = c.loop-self.invariant in
    let end = c.args.size - length c.front.result.1.now in
    let found = cut_told c.args.size c.front.result in
    let later = tokens_of (take (s.left - 1) (items_at c.args.size found.1)) in
    let step = tokens-step c.args.size s.left s.rest.now found c.loop-self-test.true c.front.ensures in
    let none = sym (c.depth_behind.ensures c.args.size end) ∙ c.in-None.is in
    takes-element (scan_of_reading c.args.size c.args.self.now) (last_told c.in-Some.last) later end _ _ (ap (option_map last_told) c.in-Some.is) c.if-last.false
    (sym i.same ∙ ap (end_of_element c.loop-self.depth) step ∙ end-here c.loop-self.depth c.args.size c.front.result.0 end later none)
    (ap (λ (e : ℕ). Ok (c.in-Some.last.place, e)) c.place.ensures)
    (ap (λ l. record { last = option_map last_told l; tokens = later; fault = s.fault; failed = s.failed }) i.last ∙ ap (λ (f : Option XmlFault). record { last = None; tokens = later; fault = f; failed = s.failed }) i.fault
    ∙ ap (λ b. record { last = None; tokens = later; fault = c.args.self.now.fault; failed = b }) i.failed)

pub returns-in-None-clause-sound : goal.returns-in-None-clause-sound
returns-in-None-clause-sound c =
    let s = c.loop-self.self in
    let i = c.loop-self.invariant in
    let end = c.args.size - length c.front.result.1.now in
    let found = cut_told c.args.size c.front.result in
    let later = tokens_of (take (s.left - 1) (items_at c.args.size found.1)) in
    let step = tokens-step c.args.size s.left s.rest.now found c.loop-self-test.true c.front.ensures in
    let none = sym (c.depth_behind.ensures c.args.size end) ∙ c.in-None.is in
    record {
      whole = whole-step c.args.size s.left s.rest.now found c.loop-self-test.true i.whole c.front.ensures;
      small = omega (arith, c.requires.sound.small, c.loop-self.invariant.fits);
      failed = λ f. absurd (let none = c.requires.sound.failed (sym i.failed ∙ f) in omega (arith, none.0, i.fits, c.loop-self-test.true));
      balanced = subst (λ l. IsBalanced (record { last = option_map last_told l; tokens = later; fault = s.fault; failed = s.failed })) (sym i.last)
          (inside-end s.fault s.failed c.loop-self.depth c.args.size i.inside.0 c.front.result.0 end later none
          (subst (λ t. IfNone s.fault (closes (suc (c.loop-self.depth + i.inside.0)) t ≡ true)) step i.inside.1));
    }
