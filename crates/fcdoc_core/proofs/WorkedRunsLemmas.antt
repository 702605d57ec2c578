-- The worked runs hold.
use Rattle.std.proofs.Common.{◌≡◌, ◌≢◌, inl, inr, ℕ, zero, suc, ◌<◌, List, [], ◌∷◌, ◌++◌, length, drop, Option, Some, None, unwrap_or, refl, sym, subst, ap, ◌∙◌, codes, arith, length-append}
use Rattle.std.specs.FinMap.{insert}
use Rattle.std.specs.Io.KnownBytes.{Appends}
use Rattle.fc_base.specs.Devices.{Held}
use Rattle.property_types.specs.Plans.{Slots}
use Rattle.fcdoc_core.specs.Delivery.{Front, GaveLess, calls_begun, text_within}
use Rattle.fcdoc_core.specs.FeatureRuns.{FeatureRuns, RanFor, RanAtMostFor}
use Rattle.fcdoc_core.specs.Headline.{Leaves, SinkStopped}
use Rattle.fcdoc_core.specs.WorkedRuns.{RunsWork, ran, saving}
use Rattle.fcdoc_core.proofs.FrontLemmas.{fronts_are_of_the_text}

-- the front of the first reply and one byte of the second
abbrev second : Front
second = record { whole = 1; part = 1 }

-- a sink that was given this was given that front and no other
only_second : (g : GaveLess saving.pieces (Some (codes "w")) (Some (codes "wa\nb"))) → g.front ≡ second
only_second g = fronts_are_of_the_text.one saving.pieces g.front second g.proper (omega arith) (sym (ap (drop 1) g.given))

ran_second : (g : GaveLess saving.pieces (Some (codes "w")) (Some (codes "wa\nb"))) (b c : ℕ) → RanFor (calls_begun saving g.front) (ran 5 7) (ran b c) → (b ≡ 7) × (c ≡ 8)
ran_second g b c r = let at = subst (λ (f : Front). RanFor (calls_begun saving f) (ran 5 7) (ran b c)) (only_second g) r in (at.1, at.2.1)

-- the front of two replies and one byte of the third
abbrev third : Front
third = record { whole = 2; part = 1 }

only_third : (g : GaveLess saving.pieces (Some (codes "w")) (Some (codes "wa\nbc\nd"))) → g.front ≡ third
only_third g = fronts_are_of_the_text.one saving.pieces g.front third g.proper (omega arith) (sym (ap (drop 1) g.given))

ran_third : (g : GaveLess saving.pieces (Some (codes "w")) (Some (codes "wa\nbc\nd"))) (b c : ℕ) → RanFor (calls_begun saving g.front) (ran 5 7) (ran b c) → (b ≡ 7) × (c ≡ 9)
ran_third g b c r = let at = subst (λ (f : Front). RanFor (calls_begun saving f) (ran 5 7) (ran b c)) (only_third g) r in (at.1, at.2.1)

-- behind a proper front something is left, so the sink was not given all
took_all : GaveLess saving.pieces (Some (codes "w")) (Some (codes "wa\nbc\nd\n")) → ⊥
took_all g =
    let left = fronts_are_of_the_text.remains saving.pieces g.front in
    let some = left.proper g.proper in
    let whole = ap length left.whole ∙ length-append (text_within saving.pieces g.front) left.rest in
    let given = ap length g.given in
    absurd (omega (arith, some, whole, given))

-- the first reply was written, so at most two commands were begun
more_than_front : (k n : ℕ) → Appends (Some (codes "w")) (Some (codes "wa\n")) (text_within saving.pieces (record { whole = k; part = n }))
    → RanAtMostFor (calls_begun saving (record { whole = k; part = n })) (ran 5 7) (ran 7 9) → ⊥
more_than_front zero n given r = let e = r.2 in absurd (omega (arith, e))
more_than_front (suc zero) n given r = let e = r.3.2 in absurd (omega (arith, e))
more_than_front (suc (suc k)) n given r = let e = ap length given in absurd (omega (arith, e))

abbrev first_runs : List FeatureRuns → ℕ
first_runs [] = 0
first_runs (f ∷ fs) = f.runs

abbrev first_code : List ℕ → ℕ
first_code [] = 0
first_code (c ∷ cs) = c

pub runs_work : (held : Held) → RunsWork held
runs_work held = record {
  whole = record { status_is = refl; text = refl; held = refl; faults = record { store = refl; sink = refl }; runs = (refl, refl, (refl, refl, tt)) };
  nothing_put = λ other l. other (sym l.held);
  half_written = λ l. let e = ap length l.text in absurd (omega (arith, e));
  other_status = λ l. let e = l.status_is in absurd (cc);
  closing_left_out = λ l. let e = l.runs.1 in absurd (omega (arith, e));
  called_twice = λ l. let e = l.runs.2.1 in absurd (omega (arith, e));
  failed_unseen = λ l. let e = l.faults.store in absurd (omega (arith, e));
  sink = record {
    gave = record { front = second; proper = omega arith; given = refl };
    held = refl;
    faults = record { store = refl; sink = record { never_falls = omega arith; rose = inl (omega arith) } };
    runs = (refl, refl, (refl, refl, tt));
  };
  next_not_called = λ l. let e = (ran_second l.gave 6 7 l.runs).0 in absurd (omega (arith, e));
  third_called = λ l. let e = (ran_second l.gave 7 9 l.runs).1 in absurd (omega (arith, e));
  last = record {
    gave = record { front = third; proper = omega arith; given = refl };
    held = refl;
    faults = record { store = refl; sink = record { never_falls = omega arith; rose = inl (omega arith) } };
    runs = (refl, refl, (refl, refl, tt));
  };
  closing_too_soon = λ l. let e = (ran_third l.gave 8 9 l.runs).0 in absurd (omega (arith, e));
  sink_took_all = λ l. took_all l.gave;
  put_all_the_same = λ other l. other (ap (λ (h : Option Held). unwrap_or h held) l.held);
  fetch = inl (record { text = refl; held = refl; faults = record { store = record { never_falls = omega arith; rose = inl (omega arith) }; sink = refl }; runs = refl });
  called_before = λ l. elim l [ inl x ↦ let e = ap first_runs x.runs in absurd (omega (arith, e)) | inr x ↦ let e = ap length x.text in absurd (omega (arith, e)) ];
  failed_put = inr (record { text = refl; held = λ other ne. refl; faults = record { store = record { never_falls = omega arith; rose = inl (omega arith) }; sink = refl }; runs = (refl, refl, (refl, refl, tt)) });
  failed_put_lost_another = λ after name ne differs l. elim l [ inl x ↦ let e = ap length x.text in absurd (omega (arith, e)) | inr x ↦ differs (x.held name ne) ];
  failed_put_without_closing = λ l. elim l [ inl x ↦ let e = ap length x.text in absurd (omega (arith, e)) | inr x ↦ let e = x.runs.1 in absurd (omega (arith, e)) ];
  no_put = λ l. elim l [ inl x ↦ let e = ap length x.text in absurd (omega (arith, e)) | inr x ↦ x.held ];
  memory = record {
    gave = record { front = record { whole = 1; part = 0 }; within = omega arith; given = refl };
    held = refl;
    faults = record { store = refl; sink = refl };
    runs = (refl, omega arith, omega arith, (refl, omega arith, omega arith, tt));
  };
  memory_called_twice = λ l. more_than_front l.gave.front.whole l.gave.front.part l.gave.given l.runs;
  memory_at_the_end = record {
    gave = record { front = record { whole = 3; part = 0 }; within = omega arith; given = refl };
    held = refl;
    faults = record { store = refl; sink = refl };
    runs = (refl, omega arith, omega arith, (refl, omega arith, omega arith, tt));
  };
  run_too_often = λ r. let e = r.2 in absurd (omega (arith, e));
  run_less = λ r. let e = r.1 in absurd (omega (arith, e));
  stops = (refl, refl, (refl, refl, tt));
  other_plan = λ r. let e : 67 ≡ 66 = ap (λ (p : Slots). first_code p.type_name) r.0 in absurd (omega (arith, e));
}
