use Rattle.std.proofs.Common.{◌∙◌}
use Rattle.quotes.specs.Filters.{best_passing}
use Rattle.quotes.proofs.Layers.{layer_pair}
use Rattle.quotes.proofs.filter.best_pair_through.Goals as goal

pub returns : goal.returns
returns g c =
    let below = c.args.below.now in
    let filter = c.args.filter.now in
    let centres = g.S.QuoteSource.centres in
    let q = g.S.QuoteSource.means below in
    let passes = g.F.Filter.passes filter in
    let found = g.met.S.QuoteSource.finds_best below passes in
    let pair = layer_pair centres q passes (g.F.LayerFilter.over filter) (g.met.F.LayerFilter.shows_what_passes filter) in
    ◌∙◌ {b = best_passing passes centres q} (◌∙◌ {b = g.S.Searchable.finds below passes} c.best_passing.ensures found) pair
