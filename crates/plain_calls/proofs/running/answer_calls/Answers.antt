use Rattle.std.proofs.Common.{[], refl, subst}
use Rattle.laws.proofs.Whole.{the_law}
use Rattle.dayfile.specs.Day.{day_start, no_fills}
use Rattle.stacks.specs.Venue.{opening_quotes}
use Rattle.plain_calls.specs.Runs.{calls_meant, Made}
use Rattle.plain_calls.proofs.Making.{made_none}
use Rattle.plain_calls.proofs.Tellings.{made_said, made_told}
use Rattle.plain_calls.proofs.running.answer_calls.Goals as goal

pub returns-in-Ok : goal.returns-in-Ok
returns-in-Ok c =
    let r = c.answer_all-answered.result in
    let new = c.answer_all-answered.new in
    let kept = c.answer_all-answered.ensures in
    let made : Made day_start c.args.calls.now c.args.answers.now new.answers c.args.fills.now new.fills r.calls r.fills = subst (λ s. Made s c.args.calls.now c.args.answers.now new.answers c.args.fills.now new.fills r.calls r.fills) c.in-Ok.ensures kept.made in
    record {
      made = made;
      said = made_said day_start c.args.calls.now c.args.answers.now new.answers c.args.fills.now new.fills r.calls r.fills made;
      told = made_told day_start c.args.calls.now c.args.answers.now new.answers c.args.fills.now new.fills r.calls r.fills made;
      ends = kept.ends;
      law = the_law 32 opening_quotes no_fills (calls_meant r.calls c.args.calls.now);
    }

pub returns-in-Err : goal.returns-in-Err
returns-in-Err c =
    record {
      made = made_none day_start c.args.calls.now c.args.answers.now c.args.fills.now;
      said = tt;
      told = (refl, refl);
      ends = (refl, refl);
      law = the_law 32 opening_quotes no_fills [];
    }
