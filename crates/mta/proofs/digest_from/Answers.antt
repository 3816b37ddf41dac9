use mathlib.Core.Path.{◌∙◌}
use native.Mathlib.Omega.{arith}
use Rattle.octets.proofs.Putting.{put_in, put_whole}
use Rattle.mta.proofs.digest_from.Goals as goal

pub returns : goal.returns
returns c =
    let s = c.args.s.now in
    let l = c.requires in
    c.put.ensures ∙ put_in _ s 0 (omega (arith, l)) ∙ put_whole _ s (omega (arith, l))
