use Rattle.fcdoc_core.proofs.delivery.deliver.Goals as goal

pub returns-in-Usage-clause-spoken : goal.returns-in-Usage-clause-spoken
returns-in-Usage-clause-spoken g c = rw c.in-Usage.is (rw c.as_bytes.ensures.value at c.say_line.ensures)

pub returns-in-DocumentTooLong-clause-spoken : goal.returns-in-DocumentTooLong-clause-spoken
returns-in-DocumentTooLong-clause-spoken g c = rw c.in-DocumentTooLong.is c.say_line-in-DocumentTooLong.ensures

pub returns-in-ScriptTooLong-clause-spoken : goal.returns-in-ScriptTooLong-clause-spoken
returns-in-ScriptTooLong-clause-spoken g c = rw c.in-ScriptTooLong.is c.say_line-in-ScriptTooLong.ensures
