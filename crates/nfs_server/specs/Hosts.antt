-- A peer's host: its address as a text, and as a number.
use Rattle.std.specs.Prelude.{◌≡◌, ℕ, List}
use Rattle.std.specs.Net.Addr.{IsIpv4Mapped, embedded_segments, ipv4_octets, ipv6_bits, ipv6_segments, low_octets}
use Rattle.std.specs.Net.Text.{ipv4_text, ipv6_text}
use Rattle.std.specs.declared.net.ipv6_addr.Ipv6Addr.{Ipv6Addr}
use Rattle.std.specs.declared.net.ip_addr.IpAddr.{IpAddr}
use Rattle.std.specs.declared.net.ip_addr.IpAddr.TheVariants.{V4, V6}

-- the host's text; an address of version 4 that came over a socket of version 6 (::ffff:a.b.c.d) is written as such
abbrev pub IsHostText : IpAddr → List ℕ → Type 0
IsHostText (V4 address) text = text ≡ ipv4_text (ipv4_octets address)
IsHostText (V6 address) text =
    (IsIpv4Mapped (ipv6_segments address) → text ≡ ipv4_text (low_octets address))
    × (¬ IsIpv4Mapped (ipv6_segments address) → text ≡ ipv6_text (ipv6_segments address))

-- its number; an address of version 4 has that of the one under which it comes over a socket of version 6
abbrev pub IsHostNumber : IpAddr → ℕ → Type 0
IsHostNumber (V4 address) number =
    (mapped : Ipv6Addr) × (ipv6_segments mapped ≡ embedded_segments 0xffff address) × (number ≡ ipv6_bits mapped)
IsHostNumber (V6 address) number = number ≡ ipv6_bits address
