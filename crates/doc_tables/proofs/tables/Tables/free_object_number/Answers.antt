use Rattle.std.proofs.Common.{arith}
use Rattle.doc_tables.proofs.ChangeHeld.{few-names, name-free, name-seen}
use Rattle.doc_tables.proofs.tables.Tables.free_object_number.Goals as goal

pub first_free-number-requires : goal.first_free-number-requires
first_free-number-requires c = c.self.invariant.object_room.used

pub overflow_cast-result : goal.overflow_cast-result
overflow_cast-result c = omega (arith, few-names c.args.self.now c.self.inside c.self.invariant c.self.view_is c.requires c.first_free-number.result c.first_free-number.ensures.used)

pub returns-clause-free : goal.returns-clause-free
returns-clause-free c = name-free c.args.self.now c.self.inside c.self.invariant c.self.view_is c.first_free-number.result c.first_free-number.ensures.free

pub returns-clause-used : goal.returns-clause-used
returns-clause-used c = λ n below. name-seen c.args.self.now c.self.inside c.self.invariant c.self.view_is n (c.first_free-number.ensures.used n below)

pub returns-clause-few : goal.returns-clause-few
returns-clause-few c = few-names c.args.self.now c.self.inside c.self.invariant c.self.view_is c.requires c.first_free-number.result c.first_free-number.ensures.used
