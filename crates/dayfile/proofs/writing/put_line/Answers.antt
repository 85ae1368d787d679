use Rattle.std.proofs.Common.{◌≡◌, ◌++◌, List, ℕ, Ok, Err, Result, vec_items}
use Rattle.std.specs.Prelude.{OnOk, is_ok, if◌then◌else◌}
use Rattle.dayfile.proofs.Behind.{one_written}
use Rattle.dayfile.proofs.writing.put_line.Goals as goal

-- what was written, where all was
ok_written : {E : Type 0} (r : Result (Unit {0}) E) (old more after : List ℕ) → after ≡ (if is_ok r then old ++ more else old) → OnOk r (after ≡ old ++ more)
ok_written (Ok u) old more after e = e
ok_written (Err why) old more after e = tt

pub returns : goal.returns
returns c =
    let out = vec_items c.args.out.now in
    rw (← one_written c.args.answer) (ok_written c.put_answer.result out _ (vec_items c.put_answer.new.out) c.put_answer.ensures.bytes)
