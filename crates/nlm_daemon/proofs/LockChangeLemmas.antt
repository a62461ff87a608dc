-- Changes of what files have of locks.
use Rattle.std.proofs.Common.{ℕ, [], sym, ◌∙◌, subst, append-nil}
use Rattle.nlm_ranges.specs.Files.{FileValue}
use Rattle.nfs_objects.specs.Knows.{TurnsWhere}
use Rattle.nfs_objects.specs.Sound.{Sound}
use Rattle.nfs_objects.specs.Stands.{StoreMeaning}
use Rattle.nfs_objects.specs.Values.{DraftValue}
use Rattle.nfs_inodes.specs.Locks.{locks_set, number_spent}
use Rattle.nlm_daemon.specs.Comes.{TurnsSending}

-- with no message
pub sends-nothing : (old new : DraftValue) (op : StoreMeaning → StoreMeaning) (IsSo : StoreMeaning → Type 0)
    → TurnsWhere IsSo old new op →
    TurnsSending IsSo old new [] op
sends-nothing old new op IsSo turns = record {
  turns = subst (λ (d : DraftValue). TurnsWhere IsSo old d op) (λ i. record new { messages = turns.messages i }) turns;
  sent = turns.messages ∙ sym (append-nil old.messages);
}

-- ---- what is kept stays sound, since nothing of it tells of locks
pub set-sound : (n : ℕ) (f : FileValue) (k : StoreMeaning) → Sound k → Sound (locks_set n f k)
set-sound n f k sound = record {
  links = sound.links;
  parents = λ q o at is. let p = sound.parents q o at is in
      record { directory = p.directory; lives = p.lives; named_in = p.named_in };
  usage = sound.usage;
}

pub spent-sound : (number : ℕ) (k : StoreMeaning) → Sound k → Sound (number_spent number k)
spent-sound number k sound = record {
  links = sound.links;
  parents = λ q o at is. let p = sound.parents q o at is in
      record { directory = p.directory; lives = p.lives; named_in = p.named_in };
  usage = sound.usage;
}
