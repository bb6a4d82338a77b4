-- So many messages of one kind, added at once. Assumes nothing.
use Rattle.std.proofs.Common.{◌≡◌, ℕ, zero, suc, ◌^◌, ◌<◌, replicate, ap, ◌∙◌, arith}
use Rattle.types.specs.declared.Counts.{Counts}
use Rattle.types.specs.declared.Message.TheVariants.{View, Vote, Vc, Qc}
use Rattle.types.specs.Traffic.{counts_of, wrapped, counts_more}
use Rattle.types.specs.TrafficLaws.{wrapped-none, wrapped-both, wrapped-low}

-- one more and then k more
wrapped-one : (x k : ℕ) → wrapped (wrapped x 1) k ≡ wrapped x (suc k)
wrapped-one x k = wrapped-both x 1 k ∙ ap (wrapped x) (omega arith)

pub more-views : (w p k : ℕ) (x : Counts) → x.views < 2 ^ 64 → counts_more x (replicate k (View w p)) ≡ counts_of (wrapped x.views k) x.votes x.vcs x.qcs
unfolding counts_more
more-views w p zero x l = ap (λ (z : ℕ). counts_of z x.votes x.vcs x.qcs) (wrapped-none x.views l)
more-views w p (suc k) x l = more-views w p k (counts_of (wrapped x.views 1) x.votes x.vcs x.qcs) (wrapped-low x.views 1)
    ∙ ap (λ (z : ℕ). counts_of z x.votes x.vcs x.qcs) (wrapped-one x.views k)

pub more-votes : (w p k : ℕ) (x : Counts) → x.votes < 2 ^ 64 → counts_more x (replicate k (Vote w p)) ≡ counts_of x.views (wrapped x.votes k) x.vcs x.qcs
unfolding counts_more
more-votes w p zero x l = ap (λ (z : ℕ). counts_of x.views z x.vcs x.qcs) (wrapped-none x.votes l)
more-votes w p (suc k) x l = more-votes w p k (counts_of x.views (wrapped x.votes 1) x.vcs x.qcs) (wrapped-low x.votes 1)
    ∙ ap (λ (z : ℕ). counts_of x.views z x.vcs x.qcs) (wrapped-one x.votes k)

pub more-vcs : (w p k : ℕ) (x : Counts) → x.vcs < 2 ^ 64 → counts_more x (replicate k (Vc w p)) ≡ counts_of x.views x.votes (wrapped x.vcs k) x.qcs
unfolding counts_more
more-vcs w p zero x l = ap (λ (z : ℕ). counts_of x.views x.votes z x.qcs) (wrapped-none x.vcs l)
more-vcs w p (suc k) x l = more-vcs w p k (counts_of x.views x.votes (wrapped x.vcs 1) x.qcs) (wrapped-low x.vcs 1)
    ∙ ap (λ (z : ℕ). counts_of x.views x.votes z x.qcs) (wrapped-one x.vcs k)

pub more-qcs : (w p k : ℕ) (x : Counts) → x.qcs < 2 ^ 64 → counts_more x (replicate k (Qc w p)) ≡ counts_of x.views x.votes x.vcs (wrapped x.qcs k)
unfolding counts_more
more-qcs w p zero x l = ap (λ (z : ℕ). counts_of x.views x.votes x.vcs z) (wrapped-none x.qcs l)
more-qcs w p (suc k) x l = more-qcs w p k (counts_of x.views x.votes x.vcs (wrapped x.qcs 1)) (wrapped-low x.qcs 1)
    ∙ ap (λ (z : ℕ). counts_of x.views x.votes x.vcs z) (wrapped-one x.qcs k)
