use Rattle.std.proofs.Common.{◌<◌, length, ◌+◌, refl, sym, arith}
use Rattle.dependency_order.proofs.WalkLemmas.{f_within, input_here, goes_back, goes_in, goes_past, goes_round}
use Rattle.dependency_order.proofs.walk.Walk.resume.Goals as goal

pub next_input-requires : goal.next_input-requires
next_input-requires c =
    let w = c.requires.under_way in
    let within = f_within c.args.inputs.now c.args.self.now.marks.items c.args.self.now.path.items c.args.self.now.order.items c.args.frame w in
    omega (arith, w.marked)

pub close-requires : goal.close-requires
close-requires c =
    f_within c.args.inputs.now c.args.self.now.marks.items c.args.self.now.path.items c.args.self.now.order.items c.args.frame c.requires.under_way

pub mark-requires : goal.mark-requires
mark-requires c =
    let w = c.requires.under_way in
    let here = input_here c.args.inputs.now c.args.self.now.marks.items c.args.self.now.path.items c.args.self.now.order.items c.args.frame w c.in-Some.input (sym c.in-Some.ensures.input) in
    omega (arith, w.marked, c.requires.nodes.inside c.args.frame.node c.in-Some.input here)

pub open-requires : goal.open-requires
open-requires c =
    let w = c.requires.under_way in
    let here = input_here c.args.inputs.now c.args.self.now.marks.items c.args.self.now.path.items c.args.self.now.order.items c.args.frame w c.in-Some.input (sym c.in-Some.ensures.input) in
    omega (arith, w.marked, c.requires.nodes.inside c.args.frame.node c.in-Some.input here)

pub returns-in_ok-close-in-None : goal.returns-in_ok-close-in-None
returns-in_ok-close-in-None c =
    let e = c.in_ok-close-in-None.ensures in
    rw (e.marks, e.path, e.order)
    (goes_back c.args.inputs.now c.args.self.now.marks.items c.args.self.now.path.items c.args.self.now.order.items c.args.frame c.requires.under_way (sym c.in-None.ensures.input))

pub returns-in_ok-open-in-New : goal.returns-in_ok-open-in-New
returns-in_ok-open-in-New c =
    let e = c.in_ok-open-in-New.ensures in
    let w = c.requires.under_way in
    let found = sym c.in-Some.ensures.input in
    let here = input_here c.args.inputs.now c.args.self.now.marks.items c.args.self.now.path.items c.args.self.now.order.items c.args.frame w c.in-Some.input found in
    let inside : c.in-Some.input < length c.args.self.now.marks.items = omega (arith, w.marked, c.requires.nodes.inside c.args.frame.node c.in-Some.input here) in
    rw (e.marks, e.path, e.order, c.in_ok-push-in-New.ensures.items)
    (goes_in c.args.inputs.now c.args.self.now.marks.items c.args.self.now.path.items c.args.self.now.order.items c.args.frame w c.in-Some.input found inside (sym c.in-New.ensures) (record { node = c.in-Some.input; done = 0 }) refl refl)

pub returns-in-Open : goal.returns-in-Open
returns-in-Open c =
    goes_round c.args.inputs.now c.args.self.now.marks.items c.args.self.now.path.items c.args.self.now.order.items c.args.frame c.requires.under_way c.in-Some.input (sym c.in-Some.ensures.input)
    c.requires.nodes (sym c.in-Open.ensures)

pub returns-in_ok-push-in-Done : goal.returns-in_ok-push-in-Done
returns-in_ok-push-in-Done c =
    rw c.in_ok-push-in-Done.ensures.items
    (goes_past c.args.inputs.now c.args.self.now.marks.items c.args.self.now.path.items c.args.self.now.order.items c.args.frame c.requires.under_way c.in-Some.input (sym c.in-Some.ensures.input)
    (sym c.in-Done.ensures) (record { node = c.args.frame.node; done = c.args.frame.done + 1 }) refl (omega arith))
