-- What an order asks for
use Rattle.terms.specs.declared.orders.RestingOrder.{RestingOrder}
use Rattle.desk.specs.declared.words.Terms.{Terms}

-- A resting order asks for what it asked for when it was entered, with its remaining shares.
abbrev pub terms_of : RestingOrder → Terms
terms_of o = record { 0 = record { member = o.member; side = o.side; kind = o.kind; limit = o.limit; offset = o.offset; shares = o.shares } }
