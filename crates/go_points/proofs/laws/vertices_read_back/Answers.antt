use Rattle.go_points.proofs.Vertices.{vertices_read_back as law}
use Rattle.go_points.proofs.laws.vertices_read_back.Goals as goal

pub returns : goal.returns
returns c = law
