pub mod FileText
pub mod RefusalLines
pub mod SiteLines
