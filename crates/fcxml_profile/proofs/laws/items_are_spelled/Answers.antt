use Rattle.fcxml_profile.proofs.ItemLaws.{item_read, item_spelled}
use Rattle.fcxml_profile.proofs.laws.items_are_spelled.Goals as goal

pub returns-clause-read : goal.returns-clause-read
returns-clause-read c = item_read

pub returns-clause-spelled : goal.returns-clause-spelled
returns-clause-spelled c = item_spelled
