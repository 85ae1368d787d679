use Rattle.std.proofs.Common.{◌&&◌, ℕ, Bool, ◌∙◌}
use Rattle.terms.specs.declared.market.Quote.{Quote}
use Rattle.quotes.specs.Filters.{best_passing}
use Rattle.quotes.proofs.Layers.{layer_passing}
use Rattle.quotes.proofs.filter.best_passing_through.Goals as goal

pub returns : goal.returns
returns g c =
    let below = c.args.below.now in
    let layer = c.args.layer.now in
    let filter = c.args.filter.now in
    let centres = g.S.QuoteSource.centres in
    let q = g.S.QuoteSource.means below in
    let passes : ℕ → Quote → Bool = λ centre quote. g.F.Filter.passes layer centre quote && g.G.Filter.passes filter centre quote in
    let found = g.met.S.QuoteSource.finds_best below passes in
    let through = layer_passing centres q (g.F.Filter.passes layer) (g.F.LayerFilter.over layer) (g.met.F.LayerFilter.shows_what_passes layer) (g.G.Filter.passes filter) in
    ◌∙◌ {b = best_passing passes centres q} (◌∙◌ {b = g.S.Searchable.finds below passes} c.best_passing.ensures found) through
