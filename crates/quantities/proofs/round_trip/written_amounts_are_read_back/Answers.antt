use Rattle.quantities.proofs.RoundTrip.{decimal_value-decimal_text, decimal_value-nine_text}
use Rattle.quantities.proofs.round_trip.written_amounts_are_read_back.Goals as goal

pub returns : goal.returns
returns c = record { decimal = decimal_value-decimal_text; nine = decimal_value-nine_text }
