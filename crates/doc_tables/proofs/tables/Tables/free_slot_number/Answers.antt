use Rattle.std.proofs.Common.{arith}
use Rattle.doc_tables.proofs.ChangeHeld.{few-keys, key-free, keys-used, slot-used}
use Rattle.doc_tables.proofs.tables.Tables.free_slot_number.Goals as goal

pub first_free-number-requires : goal.first_free-number-requires
first_free-number-requires c = keys-used c.args.self.now c.self.inside c.self.invariant c.self.view_is

pub overflow_cast-result : goal.overflow_cast-result
overflow_cast-result c = omega (arith, few-keys c.args.self.now c.self.inside c.self.invariant c.self.view_is c.requires c.first_free-number.result (λ n below. slot-used c.args.self.now c.self.inside c.self.invariant c.self.view_is n (c.first_free-number.ensures.used n below)))

pub returns-clause-free : goal.returns-clause-free
returns-clause-free c = key-free c.args.self.now c.self.inside c.self.invariant c.self.view_is c.first_free-number.result c.first_free-number.ensures.free

pub returns-clause-used : goal.returns-clause-used
returns-clause-used c = λ n below. slot-used c.args.self.now c.self.inside c.self.invariant c.self.view_is n (c.first_free-number.ensures.used n below)

pub returns-clause-few : goal.returns-clause-few
returns-clause-few c =
    few-keys c.args.self.now c.self.inside c.self.invariant c.self.view_is c.requires c.first_free-number.result
    (λ n below. slot-used c.args.self.now c.self.inside c.self.invariant c.self.view_is n (c.first_free-number.ensures.used n below))
