-- `auditor::claims`: what every list of calls keeps; the third demand through the contracts as they stand. Assumes nothing.
use Rattle.auditor.proofs.Settling.{two_auditors}
use Rattle.auditor.proofs.Every.{demand3_claimed, kept_claimed, whatever_claimed}
use Rattle.auditor.proofs.Holding.{held_is_accepted, sixteen_first, never_back, one_timestamp}
use Rattle.auditor.proofs.Refusing.{refused_add_nothing, nothing_depends, one_exception, latest_refused}
use Rattle.auditor.proofs.Showing.{kept_is_evidence, honest_leaves_none}
use Rattle.auditor.proofs.Keeping.{journal_joins, appended_back, long_enough}
use Rattle.auditor.proofs.Computing.{disputed, rows_hold}
use Rattle.auditor.proofs.Enums.{settling_faithful, appending_faithful}
use Rattle.auditor.proofs.Serving.{honest_log, grown_heads}
use Rattle.auditor.proofs.Timestamps.{held_again, only_stricter}
use Rattle.auditor.proofs.claims.Goals as goal

pub returns : goal.returns
returns c = record {
  demand3 = demand3_claimed;
  as_kept = kept_claimed;
  journal_joins = journal_joins;
  appended_reads_back = appended_back;
  long_enough = long_enough;
  whatever_given = whatever_claimed;
  two_auditors = two_auditors;
  held_is_accepted = held_is_accepted;
  refused_add_nothing = refused_add_nothing;
  sixteen_first = sixteen_first;
  never_back = never_back;
  one_timestamp = one_timestamp;
  held_again = held_again;
  only_stricter = only_stricter;
  nothing_depends = nothing_depends;
  one_exception = one_exception;
  latest_refused = latest_refused;
  kept_is_evidence = kept_is_evidence;
  honest_leaves_none = honest_leaves_none;
  rows_hold = rows_hold;
  disputed = disputed;
  honest_log = honest_log;
  grown_heads = grown_heads;
  settling_loses_nothing = settling_faithful;
  appending_loses_nothing = appending_faithful;
}
