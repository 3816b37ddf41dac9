-- `growing::claims`: what every list of calls keeps. Assumes nothing.
use Rattle.growing.proofs.Accepting.{accepts_all}
use Rattle.growing.proofs.Calling.{follows_all, however_cut, all_taken, takes, refused_unchanged}
use Rattle.growing.proofs.Showing.{pages_or_joined, shown_all, same_leaves}
use Rattle.growing.proofs.Every.{claimed}
use Rattle.growing.proofs.claims.Goals as goal

pub returns : goal.returns
returns c = record {
  follows_all = follows_all;
  however_cut = however_cut;
  all_taken = all_taken;
  takes = takes;
  pages_or_joined = pages_or_joined;
  refused_unchanged = refused_unchanged;
  accepts_all = accepts_all;
  shown_all = shown_all;
  same_leaves = same_leaves;
  by_number = claimed;
}
