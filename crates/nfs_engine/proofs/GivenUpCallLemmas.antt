-- A call that is given up leaves the others as they were.
use Rattle.std.proofs.Common.{◌≡◌, ℕ, List, refl, sym, ◌∙◌, ap, arith}
use Rattle.nfs_engine.proofs.CallsInProgressLemmas.{stays_running, was_running}
use Rattle.nfs_engine.specs.Book.{BookValue, store_in}
use Rattle.nfs_engine.specs.Engine.{KeepsOthers}
use Rattle.nfs_engine.specs.Running.{running_at, without_call}
use Rattle.nfs_engine.specs.Shards.{ShardValue}

pub gave_up : (book later : BookValue) (shards : List ShardValue) (key id : ℕ) →
    later ≡ record book { living = without_call book.living key id } →
    KeepsOthers id (record { book = book; shards = shards }) (record { book = later; shards = shards })
gave_up book later shards key id rest = record {
  objects = λ a j apart some. ap (λ (b : BookValue). (store_in b).at a) rest;
  lasts = λ n j apart some. ap (λ (b : BookValue). (store_in b).last n) rest;
  holds = λ a j apart. refl;
  living = λ k r apart is. ap (λ (b : BookValue). running_at b.living k) rest ∙
      stays_running book.living key id k r apart is;
  lived = λ k r apart is. was_running book.living key id k r apart
      (sym (ap (λ (b : BookValue). running_at b.living k) rest) ∙ is);
  ids = (let same : later.next_id ≡ book.next_id = ap (λ (b : BookValue). b.next_id) rest in omega arith);
  generations = λ k. omega arith;
  setting = ap (λ (b : BookValue). b.setting) rest;
}
