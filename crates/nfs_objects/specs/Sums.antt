-- What the objects of an export use together (RFC 1813, 3.3.18), by groups of their numbers.
use Rattle.std.specs.Prelude.{ℕ, ◌+◌, ◌-◌, ◌^◌, ◌%◌, Bool, ◌&&◌, Option, Some, None, min}
use Rattle.std.specs.Prelude.{count_by, sum_by, if◌then◌else◌, ◌==◌}
use Rattle.std.specs.FinMap.{entries, values}
use Rattle.nfs_machine.specs.Attributes.{used_of}
use Rattle.nfs_machine.specs.State.{Living, State}
use Rattle.nfs_objects.specs.declared.object.Object.{Object}
use Rattle.nfs_objects.specs.declared.object.Object.TheVariants as objects
use Rattle.nfs_objects.specs.declared.usage.Usage.{Usage}

-- the group that the object with this number is counted in
abbrev pub group_of : ℕ → ℕ
group_of number = number % 64

-- that of no object
abbrev pub no_usage : Usage
no_usage = record { used = 0; objects = 0 }

abbrev pub is_none : Usage → Bool
is_none u = (u.used == 0) && (u.objects == 0)

-- what stands for a group: nothing for one with no object
abbrev pub stored_usage : Usage → Option Object
stored_usage u = if is_none u then None else Some (objects.Usage u)

-- the usage that stands there
abbrev pub usage_of : Option Object → Usage
usage_of (Some (objects.Usage u)) = u
usage_of o = no_usage

-- ---- the sums of a state
-- whether the object at a number is of this export, and counted in this group
abbrev pub is_counted : (export group : ℕ) → ℕ × Living → Bool
is_counted export group e = (e.1.export == export) && (group_of e.0 == group)

-- what the living objects of a group use together
abbrev pub usage_in : State → (export group : ℕ) → Usage
usage_in m export group = record {
  used = sum_by (λ (e : ℕ × Living). if is_counted export group e then used_of e.1.content else 0)
      (entries m.objects);
  objects = count_by (is_counted export group) (entries m.objects);
}

-- what all living objects of an export use together, as far as it stays within 128 bits
abbrev pub export_usage : State → (export : ℕ) → Usage
export_usage m export = record {
  used = min (sum_by (λ (o : Living). if o.export == export then used_of o.content else 0) (values m.objects))
      (2 ^ 128 - 1);
  objects = min (count_by (λ (o : Living). o.export == export) (values m.objects)) (2 ^ 128 - 1);
}

-- ---- what one object has of them
-- this, in this export alone
abbrev pub in_export : (export : ℕ) → Usage → ℕ → Usage
in_export export u e = if export == e then u else no_usage

-- the share of an object with this content
abbrev pub one_using : ℕ → Usage
one_using used = record { used = used; objects = 1 }

-- of what lives, in each export; of nothing, none
abbrev pub shares_of : Option Living → ℕ → Usage
shares_of None e = no_usage
shares_of (Some o) e = in_export o.export (one_using (used_of o.content)) e

-- ---- changes of them
-- one share gives way to another; the sums stay within their 128 bits
abbrev pub moved : (before after : Usage) → Usage → Usage
moved before after u = record {
  used = min (u.used - before.used + after.used) (2 ^ 128 - 1);
  objects = min (u.objects - before.objects + after.objects) (2 ^ 128 - 1);
}

-- the sums of both, within their 128 bits
abbrev pub together : Usage → Usage → Usage
together u v = record {
  used = min (u.used + v.used) (2 ^ 128 - 1);
  objects = min (u.objects + v.objects) (2 ^ 128 - 1);
}

abbrev pub is_same_usage : Usage → Usage → Bool
is_same_usage a b = (a.used == b.used) && (a.objects == b.objects)

-- nothing is written where the shares are the same
abbrev pub exchanged : (before after : Usage) → Usage → Usage
exchanged before after u = if is_same_usage before after then u else moved before after u

-- what the object at a number had of each export gives way to what it has now
abbrev pub exchanged_at : (number : ℕ) → (before after : ℕ → Usage) →
    (ℕ → ℕ → Usage) → ℕ → ℕ → Usage
exchanged_at number before after usage e g =
    if group_of number == g then exchanged (before e) (after e) (usage e g) else usage e g
