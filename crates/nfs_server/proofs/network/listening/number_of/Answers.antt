-- It is the number of the mapped address.
use Rattle.std.proofs.Common.{subst, sym}
use Rattle.std.specs.declared.net.ip_addr.IpAddr.{IpAddr}
use Rattle.nfs_server.specs.Hosts.{IsHostNumber}
use Rattle.nfs_server.proofs.network.listening.number_of.Goals as goal

pub returns-in-V4 : goal.returns-in-V4
returns-in-V4 c =
    subst (λ (a : IpAddr). IsHostNumber a c.to_bits.result) (sym c.in-V4.is)
    (c.to_ipv6_mapped.result, c.to_ipv6_mapped.ensures, c.to_bits.ensures)
