use Rattle.venue.proofs.Calling.{together}
use Rattle.venue.proofs.venue.Venue.close.Goals as goal

pub take_all_back-requires : goal.take_all_back-requires
take_all_back-requires c = rw c.into_parts-book.ensures (together c.args.self)
