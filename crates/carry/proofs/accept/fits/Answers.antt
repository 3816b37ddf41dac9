-- `carry::accept::fits` meets its contract: one field for each test. Assumes nothing.
use mathlib.Core.Bool.{false≢true}
use Prim.Native.Nat.{◌/◌}
use native.Mathlib.Omega.{arith}
use borrow.Author.Tests.{eq-eqb, eqb-true}
use Rattle.tree.specs.Count.{consistency_count}
use Rattle.carry.proofs.accept.fits.Goals as goal

pub returns-then-leaf-ne32 : goal.returns-then-leaf-ne32
returns-then-leaf-ne32 c = (λ e. absurd (false≢true e), λ f. absurd (omega (arith, f.leaf_32)))

pub returns-then-old-ne32 : goal.returns-then-old-ne32
returns-then-old-ne32 c = (λ e. absurd (false≢true e), λ f. absurd (omega (arith, f.old_32)))

pub returns-then-new-ne32 : goal.returns-then-new-ne32
returns-then-new-ne32 c = (λ e. absurd (false≢true e), λ f. absurd (omega (arith, f.new_32)))

pub returns-then-path-ne0 : goal.returns-then-path-ne0
returns-then-path-ne0 c = (λ e. absurd (false≢true e), λ f. absurd (omega (arith, f.path_length)))

pub returns-then-proof-ne0 : goal.returns-then-proof-ne0
returns-then-proof-ne0 c = (λ e. absurd (false≢true e), λ f. absurd (omega (arith, f.proof_length)))

pub returns-then-m-place : goal.returns-then-m-place
returns-then-m-place c = (λ e. absurd (false≢true e), λ f. absurd (omega (arith, f.below)))

pub returns-then-n-m : goal.returns-then-n-m
returns-then-n-m c = (λ e. absurd (false≢true e), λ f. absurd (omega (arith, f.order)))

pub returns-then-path-inclusion_count : goal.returns-then-path-inclusion_count
returns-then-path-inclusion_count c = (λ e. absurd (false≢true e), λ f. absurd (omega (arith, f.path_length, c.inclusion_count.ensures)))

pub returns : goal.returns
unfolding consistency_count
returns c =
    let n = c.subproof_count.ensures in
    let m = c.inclusion_count.ensures in (
      λ e.
          let k = eqb-true (c.args.proof / 32) c.subproof_count.result e in
          record {
            leaf_32 = omega arith;
            old_32 = omega arith;
            new_32 = omega arith;
            below = omega arith;
            order = omega arith;
            in_range = omega arith;
            path_length = omega (arith, m);
            proof_length = omega (arith, n, k);
          },
      λ f. eq-eqb (c.args.proof / 32) c.subproof_count.result (omega (arith, n, f.proof_length)),
    )
