-- Times of changes (RFC 1813, 2.5: mtime and ctime).
use Rattle.std.specs.Prelude.{◌+◌, Bool, true, false, ◌&&◌, ◌||◌, nat_lt, nat_le, if◌then◌else◌}
use Rattle.std.specs.Prelude.{◌==◌}
use Rattle.nfs_wire.specs.declared.attributes.SetTime.{SetTime}
use Rattle.nfs_wire.specs.declared.attributes.SetTime.TheVariants.{Leave, ToServer, ToClient}
use Rattle.nfs_wire.specs.declared.attributes.Time.{Time}
use Rattle.nfs_machine.specs.declared.moment.Moment.{Moment}

abbrev pub time_of : Moment → Time
time_of moment = record { seconds = moment.seconds; nanoseconds = moment.nanoseconds }

abbrev pub is_earlier : Time → Time → Bool
is_earlier a b = nat_lt a.seconds b.seconds || ((a.seconds == b.seconds) && nat_lt a.nanoseconds b.nanoseconds)

-- one nanosecond later; the greatest time stays
abbrev pub next : Time → Time
next t =
    if nat_lt t.nanoseconds 999999999 then record { seconds = t.seconds; nanoseconds = t.nanoseconds + 1 }
    else (if nat_lt t.seconds 4294967295 then record { seconds = t.seconds + 1; nanoseconds = 0 } else t)

-- the time of a change that happens now, to what was changed last at that time: it rises with each change
abbrev pub touch : Time → Time → Time
touch changed now = if is_earlier (next changed) now then now else next changed

-- nanoseconds are below a second (2.5: nfstime3); that a greater number is refused is this server's own rule
abbrev pub is_time : SetTime → Bool
is_time set = elim set [ ToClient t ↦ nat_le t.nanoseconds 999999999 | other ↦ true ]

-- whose time is set
abbrev pub is_client_time : SetTime → Bool
is_client_time set = elim set [ ToClient t ↦ true | other ↦ false ]

abbrev pub is_server_time : SetTime → Bool
is_server_time set = elim set [ ToServer ↦ true | other ↦ false ]

-- a time that is set now (2.5: set_atime, set_mtime)
abbrev pub time_set : Time → Time → SetTime → Time
time_set old now set = elim set [ Leave ↦ old | ToServer ↦ now | ToClient t ↦ t ]
