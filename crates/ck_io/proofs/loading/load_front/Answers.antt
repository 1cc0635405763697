-- One part more keeps what holds while a file is loaded.
use Rattle.std.proofs.Common.{◌≡◌, ◌≤◌, ◌∙◌, length, arith, rules}
use Rattle.ck_io.proofs.Front.{StartsWith-part}
use Rattle.ck_io.proofs.loading.load_front.Goals as goal

pub loop-buffer-preserved : goal.loop-buffer-preserved
loop-buffer-preserved g c =
    let kept = c.loop-buffer.invariant in
    let fits : c.in_ok-n.n ≤ length c.read_at.new.into = omega (arith, c.in_ok-n.ensures.within) in
    let at : c.len-at.result ≡ length c.loop-buffer.bytes.items = search rules in
    let part = rw (kept.same c.args.name.now) at c.in_ok-n.ensures.part in
    record {
      within = search rules;
      front = rw c.in_ok-extend_from_slice.ensures.items (StartsWith-part _ _ _ _ _ at fits kept.front part);
      same = λ n. c.in_ok-n.ensures.same n ∙ kept.same n;
      later = λ n. omega (arith, kept.later n, c.in_ok-n.ensures.later n);
    }
