-- What an entry that counts nothing leaves.
use Rattle.std.proofs.Common.{◌≡◌, ℕ, ◌+◌, false, Some, None, arith}
use Rattle.sleep_model.specs.declared.entry.Kind.{Kind}
use Rattle.sleep_model.specs.declared.entry.Kind.TheVariants as kind
use Rattle.sleep_stats.specs.declared.counts.Counts.{Counts}
use Rattle.sleep_stats.specs.Counting.{counts_after, may_count}

none_more : (n : ℕ) → n + 0 ≡ n
none_more n = omega arith

same_counts : (c : Counts) → c ≡ record {
  success = c.success + 0;
  fail = c.fail + 0;
  failed_freeze = c.failed_freeze + 0;
  failed_prepare = c.failed_prepare + 0;
  failed_suspend = c.failed_suspend + 0;
  failed_suspend_late = c.failed_suspend_late + 0;
  failed_suspend_noirq = c.failed_suspend_noirq + 0;
  failed_resume = c.failed_resume + 0;
  failed_resume_early = c.failed_resume_early + 0;
  failed_resume_noirq = c.failed_resume_noirq + 0;
  last_devs = c.last_devs;
  last_errnos = c.last_errnos;
}
same_counts c = first_of (simp none_more, grind (arith, none_more))

-- an entry that may not count leaves the counts as they were
pub uncounted : (what : Kind) (c : Counts) → may_count what ≡ false → c ≡ counts_after what c
uncounted (kind.Over n r) c h = absurd (cc)
uncounted (kind.Froze g end) c h = absurd (cc)
uncounted (kind.Done p None) c h = same_counts c
uncounted (kind.Done p (Some r)) c h = absurd (cc)
uncounted (kind.End p d None) c h = same_counts c
uncounted (kind.End p d (Some r)) c h = absurd (cc)
uncounted (kind.Prepare d r) c h = absurd (cc)
uncounted _ c h = same_counts c
